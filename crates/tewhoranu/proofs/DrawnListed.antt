-- A drawing that is put into a file is refused by 18 or 19, or by its edges as a file's rows are.
-- Assumes nothing.
use Prim.Native.Nat.{ℕ, ◌≤◌}
use mathlib.Core.Bool.{Bool, true, false}
use mathlib.Core.List.{List, [], ◌∷◌}
use native.Mathlib.Omega.{arith}
use lib.Dec.{eqb}
use Rattle.scope_graph.specs.Language.{◌∈◌}
use Rattle.scope_graph.proofs.Lists.{here, there}
use Rattle.text_field.specs.Outcome.{Outcome, refused, done, and_then, refuse_if}
use Rattle.graph_rows.specs.Admission.{Row}
use Rattle.dot_text.specs.Tokens.{is_blank, digraph, scopes_word, open_brace}
use Rattle.dot_text.specs.Grammar.{DrawnEdge, Drawing}
use Rattle.dot_text.specs.Reading.{past_blanks, past_bytes, fixed_next, past_comment, past_blank, head_next, places_in, parts_of, drawn}
use Rattle.undot.specs.Edges.{rows_with}
use Rattle.undot.specs.Undrawn.{drawn_rows}
use Rattle.tewhoranu.specs.Listed.{last_refusal, listed, carried, ListedWith, its_own, as_others}

-- what refuses by a number of the list or one of the call's own, and goes on so
module _ (own : List ℕ) where
  pub with_then : {A B : Type 0} (o : Outcome A) (f : A → Outcome B) → ListedWith own o → ((a : A) → ListedWith own (f a)) → ListedWith own (and_then o f)
  unfolding and_then
  with_then _ f (its_own n m) h = its_own n m
  with_then _ f (as_others _ (listed n low high)) h = as_others _ (listed n low high)
  with_then _ f (as_others _ (carried a)) h = h a

  if_own_lem : {A : Type 0} (b : Bool) (n : ℕ) (o : Outcome A) → n ∈ own → ListedWith own o → ListedWith own (refuse_if b n o)
  unfolding refuse_if
  if_own_lem true n o m h = its_own n m
  if_own_lem false n o m h = h

  if_other : {A : Type 0} (b : Bool) (n : ℕ) (o : Outcome A) → 1 ≤ n → n ≤ last_refusal → ListedWith own o → ListedWith own (refuse_if b n o)
  unfolding refuse_if
  if_other true n o low high h = as_others _ (listed n low high)
  if_other false n o low high h = h

-- K14's numbers
abbrev pub own_drawn : List ℕ
own_drawn = 18 ∷ 19 ∷ []

abbrev Own : {A : Type 0} → Outcome A → Type 0
Own o = ListedWith own_drawn o

-- the drawing's text
past_bytes_lem : (bytes text : List ℕ) → Own (past_bytes bytes text)
unfolding past_bytes
past_bytes_lem [] text = as_others _ (carried text)
past_bytes_lem (b ∷ bytes) [] = its_own 18 here
past_bytes_lem (b ∷ bytes) (x ∷ text) = by (eqb x b) (past_bytes_lem bytes text)
  where
    by : (t : Bool) → Own (past_bytes bytes text) → Own {A = List ℕ} (elim t as (λ _. Outcome (List ℕ)) [ true ↦ past_bytes bytes text | false ↦ refused 18 ])
    by true h = h
    by false h = its_own 18 here

fixed_next_lem : (bytes text : List ℕ) → Own (fixed_next bytes text)
unfolding fixed_next
fixed_next_lem bytes text = past_bytes_lem bytes (past_blanks text)

past_blank_lem : (text : List ℕ) → Own (past_blank text)
unfolding past_blank
past_blank_lem [] = its_own 18 here
past_blank_lem (x ∷ text) = by (is_blank x)
  where
    by : (t : Bool) → Own {A = List ℕ} (elim t as (λ _. Outcome (List ℕ)) [ true ↦ done text | false ↦ refused 18 ])
    by true = as_others _ (carried text)
    by false = its_own 18 here

head_next_lem : (text : List ℕ) → Own (head_next text)
unfolding head_next
head_next_lem text =
    with_then own_drawn (fixed_next digraph text) _ (fixed_next_lem digraph text) (λ parted.
    with_then own_drawn (past_blank parted) _ (past_blank_lem parted) (λ word.
    with_then own_drawn (fixed_next scopes_word word) _ (fixed_next_lem scopes_word word) (fixed_next_lem open_brace)))

pub drawn_listed : (text : List ℕ) → Own (drawn text)
unfolding drawn parts_of places_in
drawn_listed text =
    with_then own_drawn (parts_of text) _
    (with_then own_drawn (head_next (past_comment text)) places_in (head_next_lem (past_comment text))
    (λ body. if_own_lem own_drawn _ 18 _ here (as_others _ (carried _))))
    (λ p. as_others _ (carried _))

-- its scopes, and its edges one by one
edges_listed : (letters : List ℕ) (scopes : ℕ) (edges : List DrawnEdge) (rows : List Row) → Own (rows_with letters scopes rows edges)
unfolding rows_with
edges_listed letters scopes [] rows = as_others _ (carried rows)
edges_listed letters scopes (e ∷ edges) rows =
    if_other own_drawn _ 5 _ (omega arith) (omega arith)
    (if_other own_drawn _ 3 _ (omega arith) (omega arith)
    (if_other own_drawn _ 4 _ (omega arith) (omega arith) (edges_listed letters scopes edges _)))

pub rows_drawn_listed : (cells : List ℕ) (d : Drawing) → Own (drawn_rows cells d)
unfolding drawn_rows
rows_drawn_listed cells d = if_own_lem own_drawn _ 19 _ (there here) (edges_listed _ _ d.edges [])
