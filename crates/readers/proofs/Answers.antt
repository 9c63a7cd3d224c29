-- What is told and left for a place among the declarations. Assumes nothing.
use Prim.Native.Nat.{ℕ, zero, suc, ◌≤◌, ◌<◌}
use mathlib.Core.Path.{◌≡◌, refl, sym, ap, ◌∙◌}
use mathlib.Core.Bool.{Bool, true, false}
use mathlib.Core.List.{List, [], ◌∷◌}
use native.Mathlib.Omega.{arith}
use borrow.Author.Tests.{lt-leb, le-leb}
use lib.ListN.{length, length-append, replicate, length-replicate}
use Rattle.scope_graph.specs.Graph.{Declaration}
use Rattle.scope_graph.specs.Rows.{language}
use Rattle.scope_graph.specs.Computed.{keep}
use Rattle.scope_graph.specs.Readers.{numbers_below, readers}
use Rattle.scope_graph.proofs.Lists.{keep_elim}
use Rattle.scope_graph.proofs.Readers.{numbers_elim}
use Rattle.text_field.specs.Outcome.{Outcome, refused, done, and_then, refuse_if}
use Rattle.text_field.specs.Answer.{answer, leaves}
use Rattle.graph_file.specs.File.{WasRead}
use Rattle.graph_rows.specs.Decode.{rules_of, scopes_of, graph_of}
use Rattle.graph_table.specs.declared.rows.DeclarationRow.{DeclarationRow}
use Rattle.readers.specs.Readers.{readers_text, declaration_at, readers_of}
use Rattle.readers.specs.Given.{declaration_on}
use Rattle.readers.proofs.Texts.{text_short}
use Rattle.readers.proofs.Asked.{scopes_few}

keep_length : {A : Type 0} (f : A → Bool) (l : List A) → length (keep f l) ≤ length l
unfolding keep
keep_length f [] = omega arith
keep_length {A} f (x ∷ l) = by (f x) (keep_length f l)
  where
    by : (t : Bool) → length (keep f l) ≤ length l
        → length {A = A} (elim t as (λ _. List A) [ true ↦ x ∷ keep f l | false ↦ keep f l ]) ≤ suc (length l)
    by true h = omega arith
    by false h = omega arith

below_length : (n : ℕ) → length (numbers_below n) ≡ n
unfolding numbers_below
below_length zero = refl
below_length (suc n) = let l = length-append (numbers_below n) (n ∷ []) in let h = below_length n in omega arith

module _ (cells : List ℕ) where
  abbrev Declared : Type 0
  Declared = Declaration (language (rules_of cells))

  abbrev pub lines_for : Declared → List ℕ
  lines_for d = readers_text (readers (language (rules_of cells)) (graph_of cells) d)

  -- 64 scopes, three bytes each, and the names line
  pub lines_fit : WasRead cells → (d : Declared) → length (lines_for d) ≤ 195
  unfolding readers graph_of
  lines_fit was d =
      let few = scopes_few cells was in
      let most : length (readers (language (rules_of cells)) (graph_of cells) d) ≤ length (numbers_below (scopes_of cells)) =
      keep_length _ (numbers_below (scopes_of cells)) in
      let count = below_length (scopes_of cells) in
      let short = text_short (readers (language (rules_of cells)) (graph_of cells) d)
      (λ s m. let k = numbers_elim (scopes_of cells) s (keep_elim _ (numbers_below (scopes_of cells)) m).0 in omega arith) in
      omega arith

  pub lines_room : WasRead cells → (d : Declared) → length (lines_for d) ≤ length (replicate {A = ℕ} 256 0)
  lines_room was d = let f = lines_fit was d in let r = length-replicate {A = ℕ} 256 0 in omega arith

  module _ (i : ℕ) where
    pub no_place : length (graph_of cells).declarations ≤ i → (out : List ℕ)
        → (refused 11 ≡ answer (readers_of cells i) (length out)) × (out ≡ leaves (readers_of cells i) out)
    unfolding readers_of refuse_if and_then answer leaves
    no_place h out = rw (le-leb (length (graph_of cells).declarations) i h) (refl, refl)

    pub place_is : i < length (graph_of cells).declarations → readers_of cells i ≡ done (lines_for (declaration_at cells i))
    unfolding readers_of refuse_if
    place_is h = rw (lt-leb (length (graph_of cells).declarations) i h)

    -- what is told of the row's declaration is told of the place
    module _ (h : i < length (graph_of cells).declarations) (d : DeclarationRow) (e : declaration_on cells d ≡ declaration_at cells i) where
      pub place_told : (r : Outcome ℕ) (o out : List ℕ)
          → (r ≡ answer (done (lines_for (declaration_on cells d))) (length out)) × (o ≡ leaves (done (lines_for (declaration_on cells d))) out)
          → (r ≡ answer (readers_of cells i) (length out)) × (o ≡ leaves (readers_of cells i) out)
      place_told r o out t =
          let f : done (lines_for (declaration_on cells d)) ≡ readers_of cells i =
          ap (λ (x : Declared). done (lines_for x)) e ∙ sym (place_is h) in (
            t.0 ∙ ap (λ (x : Outcome (List ℕ)). answer x (length out)) f,
            t.1 ∙ ap (λ (x : Outcome (List ℕ)). leaves x out) f,
          )
