-- What is known of a text that was read over a table: it is refused, or the table's first cells are
-- what it is read as. Assumes nothing.
use Prim.Native.Nat.{ℕ, ◌≤◌}
use mathlib.Core.Path.{◌≡◌, refl, sym, ap, ◌∙◌}
use mathlib.Core.List.{List}
use native.Mathlib.Omega.{arith}
use lib.ListN.{length, take}
use lib.Seq.{length-take-le}
use Rattle.std.specs.declared.result.Result.{Result}
use Rattle.std.specs.declared.result.Result.TheVariants.{Ok, Err}
use Rattle.text_field.specs.declared.refusal.Refusal.{Refusal}
use Rattle.text_field.specs.Refusal.{number_of}
use Rattle.text_field.specs.Outcome.{Outcome, refused, done, and_then}
use Rattle.text_field.specs.Answer.{answer, leaves}
use Rattle.graph_file.specs.File.{read_cells, WasRead}
use Rattle.graph_file.specs.Reader.{table_read, WrittenIn}

-- what a result says it is
pub refused_written : (r : Refusal) (n : ℕ) → ◌≡◌ {A = Result ℕ Refusal} (Err r) (Ok n) → ⊥
refused_written r n e = let z : ◌≡◌ {A = ℕ} 0 1 = cc in omega arith

pub written_same : (m n : ℕ) → ◌≡◌ {A = Result ℕ Refusal} (Ok m) (Ok n) → m ≡ n
written_same m n e = cc

pub table_refused : (a : Result ℕ Refusal) (t : List ℕ) (r : Refusal) → a ≡ Err r → table_read a t ≡ refused (number_of r)
unfolding table_read
table_refused a t r e = rw e

-- the first n cells of the table are what the text is read as
pub record ReadInto (text : List ℕ) (n : ℕ) (t : List ℕ) : Type 0 where
  pub within : n ≤ length t
  pub taken : n ≡ length (take n t)
  pub made : read_cells text ≡ done (take n t)

pub made_read : (text : List ℕ) (n : ℕ) (t : List ℕ) → ReadInto text n t → WasRead (take n t)
made_read text n t m = (text, m.made)

module _ (text : List ℕ) (a : Result ℕ Refusal) (t : List ℕ) (told : table_read a t ≡ read_cells text) where
  pub over_refused : (r : Refusal) → a ≡ Err r → read_cells text ≡ refused (number_of r)
  unfolding table_read
  over_refused r e = sym told ∙ ap (λ (x : Result ℕ Refusal). table_read x t) e

  pub over_written : WrittenIn a t → (n : ℕ) → a ≡ Ok n → ReadInto text n t
  unfolding table_read
  over_written within n e = record {
    within = within n e;
    taken = sym (length-take-le n t (within n e));
    made = sym told ∙ ap (λ (x : Result ℕ Refusal). table_read x t) e;
  }

-- What is made of a text by reading it first: its refusal, or what is made of the table.
module _ (next : List ℕ → Outcome (List ℕ)) (text : List ℕ) (n : ℕ) where
  pub refused_then : (out : List ℕ) → read_cells text ≡ refused n
      → (refused n ≡ answer (and_then (read_cells text) next) (length out)) × (out ≡ leaves (and_then (read_cells text) next) out)
  unfolding and_then answer leaves
  refused_then out e = rw e (refl, refl)

  pub made_then : (t : List ℕ) → ReadInto text n t → (r : Outcome ℕ) (o out : List ℕ)
      → (r ≡ answer (next (take n t)) (length out)) × (o ≡ leaves (next (take n t)) out)
      → (r ≡ answer (and_then (read_cells text) next) (length out)) × (o ≡ leaves (and_then (read_cells text) next) out)
  unfolding and_then
  made_then t m r o out e =
      let f : and_then (read_cells text) next ≡ next (take n t) = ap (λ (x : Outcome (List ℕ)). and_then x next) m.made in
      (e.0 ∙ ap (λ (x : Outcome (List ℕ)). answer x (length out)) (sym f), e.1 ∙ ap (λ (x : Outcome (List ℕ)). leaves x out) (sym f))
