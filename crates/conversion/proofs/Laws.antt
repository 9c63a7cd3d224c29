-- What is made of a text by changing its table's form. Assumes nothing.
use Prim.Native.Nat.{ℕ, zero, suc, ◌≤◌, ◌<◌}
use mathlib.Core.Path.{◌≡◌, refl, sym, ap, ◌∙◌}
use mathlib.Core.Bool.{Bool, true, false}
use mathlib.Core.List.{List, [], ◌∷◌}
use native.Mathlib.Omega.{arith}
use lib.ListN.{length, take}
use Rattle.text_field.specs.Outcome.{Outcome, refused, done, refuse_if}
use Rattle.text_field.specs.Answer.{answer, leaves}
use Rattle.text_field.proofs.AnswerLaws.{answer_refused, leaves_refused}
use Rattle.graph_file.specs.File.{read_cells, write_text}
use Rattle.graph_rows.specs.Tested.{form_in}
use Rattle.graph_rows.specs.Accepted.{AcceptedTable}
use Rattle.graph_rows.specs.Decode.{section_place}
use Rattle.graph_file.proofs.TableLaws.{ReadInto, refused_then, made_then}
use Rattle.graph_file.proofs.Promises.{read_accepted}
use Rattle.graph_table.specs.declared.sections.Form.{Form}
use Rattle.graph_table.specs.declared.sections.Form.TheVariants.{Old, Kinds}
use Rattle.graph_table.specs.Sections.{form_number, with_form}
use Rattle.graph_rows.specs.Formed.{in_form}
use Rattle.conversion.specs.Conversion.{old_text, new_text, text_in, text_of}
use Rattle.conversion.specs.Rows.{unfit}

-- the table in a wanted form
abbrev pub wanted : Form → List ℕ → List ℕ
wanted form cells = in_form (form_number form (form_in cells)) cells

-- the text of a table in a form: 14, or what is written
pub in_form_lem : (form : Form) (cells : List ℕ) → text_in form cells ≡ refuse_if (unfit form cells) 14 (write_text (wanted form cells))
unfolding text_in old_text new_text unfit refuse_if form_number
in_form_lem Old cells = refl
in_form_lem Kinds cells = refl

-- the first n cells, with the form changed before they are taken
pub form_taken : (form : Form) (n : ℕ) (t : List ℕ) → 0 < n → n ≤ length t → take n (with_form form t) ≡ wanted form (take n t)
unfolding with_form in_form form_in
form_taken form zero t some h = absurd (omega arith)
form_taken form (suc n) [] some h = absurd (omega arith)
form_taken form (suc n) (old ∷ t) some h = refl

module _ (form : Form) (n : ℕ) (t : List ℕ) (some : 0 < n) (h : n ≤ length t) (out : List ℕ) where
  -- 14, and nothing is written
  pub unfit_refused : (r : Bool) → r ≡ unfit form (take n t) → r ≡ true
      → (refused 14 ≡ answer (text_in form (take n t)) (length out)) × (out ≡ leaves (text_in form (take n t)) out)
  unfolding refuse_if
  unfit_refused r is so =
      let e : text_in form (take n t) ≡ refused 14 = in_form_lem form (take n t) ∙ rw (sym is ∙ so) in
      (answer_refused (text_in form (take n t)) 14 (length out) e, leaves_refused (text_in form (take n t)) 14 out e)

  -- the changed table is written
  pub fit_written : (r : Bool) → r ≡ unfit form (take n t) → r ≡ false → (u : List ℕ) → u ≡ with_form form t → (a : Outcome ℕ) (o : List ℕ)
      → (a ≡ answer (write_text (take n u)) (length out)) × (o ≡ leaves (write_text (take n u)) out)
      → (a ≡ answer (text_in form (take n t)) (length out)) × (o ≡ leaves (text_in form (take n t)) out)
  unfolding refuse_if
  fit_written r is so u same a o e =
      let same : write_text (take n u) ≡ text_in form (take n t) = ap (λ (x : List ℕ). write_text (take n x)) same ∙ ap write_text (form_taken form n t some h) ∙ sym (in_form_lem form (take n t) ∙ rw (sym is ∙ so)) in
      (e.0 ∙ ap (λ (x : Outcome (List ℕ)). answer x (length out)) same, e.1 ∙ ap (λ (x : Outcome (List ℕ)). leaves x out) same)

-- what is read has a cell at least
place_some : (k : ℕ) (cells : List ℕ) → 0 < section_place k cells
unfolding section_place
place_some zero cells = omega arith
place_some (suc k) cells = let e = place_some k cells in omega arith

pub read_some : (text cells : List ℕ) → read_cells text ≡ done cells → 0 < length cells
read_some text cells e = let a : AcceptedTable cells = read_accepted text cells e in let size = a.size in let some = place_some 9 cells in omega arith

pub made_some : (text : List ℕ) (n : ℕ) (t : List ℕ) → ReadInto text n t → 0 < n
made_some text n t m = let some = read_some text (take n t) m.made in let l = m.taken in omega arith

-- a text that is refused, and one that is read
pub text_refused : (form : Form) (text : List ℕ) (n : ℕ) (out : List ℕ) → read_cells text ≡ refused n
    → (refused n ≡ answer (text_of form text) (length out)) × (out ≡ leaves (text_of form text) out)
unfolding text_of
text_refused form text n out e = refused_then (text_in form) text n out e

pub text_made : (form : Form) (text : List ℕ) (n : ℕ) (t : List ℕ) → ReadInto text n t → (r : Outcome ℕ) (o out : List ℕ)
    → (r ≡ answer (text_in form (take n t)) (length out)) × (o ≡ leaves (text_in form (take n t)) out)
    → (r ≡ answer (text_of form text) (length out)) × (o ≡ leaves (text_of form text) out)
unfolding text_of
text_made form text n t m r o out e = made_then (text_in form) text n t m r o out e
