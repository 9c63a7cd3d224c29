-- A second mark of a name at a scope, as code goes through the declaration rows. Assumes nothing.
use Prim.Native.Nat.{ℕ, ◌≤◌, ◌<◌}
use mathlib.Core.Path.{◌≡◌, refl, sym, ap, ◌∙◌}
use mathlib.Core.Bool.{Bool, true, false}
use mathlib.Core.List.{List, [], ◌∷◌, ◌++◌}
use native.Mathlib.Omega.{arith}
use lib.ListN.{length, drop}
use Rattle.scope_graph.specs.Ends.{has_second}
use Rattle.scope_graph.proofs.Lists.{true_false}
use Rattle.scope_graph.specs.Rows.{PackedName}
use Rattle.board.specs.Marks.{marks_in}
use Rattle.board.proofs.MarkLaws.{marks_none, marks_here, marks_pass}
use Rattle.graph_table.specs.Values.{declaration_row, declares}
use Rattle.graph_table.specs.declared.rows.DeclarationRow.{DeclarationRow}
use Rattle.resolution.proofs.Chunks.{first_cell, after_chunk, chunk_whole}

-- whether there is a second one, given whether one was met before these
unfoldable pub second_after : Bool → List ℕ → Bool
second_after true l = has_second (0 ∷ l)
second_after false l = has_second l

met_second : (m : ℕ) (l : List ℕ) → has_second (0 ∷ m ∷ l) ≡ true
unfolding has_second
met_second m l = refl

met_first : (m : ℕ) (l : List ℕ) → has_second (0 ∷ l) ≡ has_second (m ∷ l)
unfolding has_second
met_first m [] = refl
met_first m (x ∷ l) = refl

module _ (t : List ℕ) (s : ℕ) (x : PackedName) where
  -- no row is left
  pub second_none : (one : Bool) → length t < 6 → false ≡ second_after one (marks_in t s x)
  unfolding second_after has_second
  second_none true h = sym (ap (λ (l : List ℕ). has_second (0 ∷ l)) (marks_none t s x 0 h))
  second_none false h = sym (ap has_second (marks_none t s x 0 h))

  module _ (cells rest : List ℕ) (split : t ≡ cells ++ rest) (size : length cells ≡ 6) (row : DeclarationRow) (e : row ≡ declaration_row cells 0) where
    is : row ≡ declaration_row t 0
    is = e ∙ rw (sym (first_cell t cells rest split size 1 (omega arith)), sym (first_cell t cells rest split size 2 (omega arith)), sym (first_cell t cells rest split size 3 (omega arith)), sym (first_cell t cells rest split size 4 (omega arith)), sym (first_cell t cells rest split size 5 (omega arith)))

    whole : 6 ≤ length t
    whole = chunk_whole t cells rest split size

    on : marks_in (drop 6 t) s x ≡ marks_in rest s x
    on = ap (λ (l : List ℕ). marks_in l s x) (after_chunk t cells rest split size)

    pub second_pass : (one : Bool) → declares x s row ≡ false
        → second_after one (marks_in rest s x) ≡ second_after one (marks_in t s x)
    second_pass one f = sym (ap (second_after one) (marks_pass t s x 0 whole row is f ∙ on))

    -- one row more matches: the second, or the first
    pub second_met : (one : Bool) → one ≡ true → declares x s row ≡ true → true ≡ second_after one (marks_in t s x)
    unfolding second_after
    second_met true z f =
        sym (ap (λ (l : List ℕ). has_second (0 ∷ l)) (marks_here t s x 0 whole row is f) ∙ met_second row.mark (marks_in (drop 6 t) s x))
    second_met false z f = absurd (true_false z refl)

    pub second_first : (one : Bool) → one ≡ false → declares x s row ≡ true
        → second_after true (marks_in rest s x) ≡ second_after one (marks_in t s x)
    unfolding second_after
    second_first true z f = absurd (true_false refl z)
    second_first false z f =
        ap (λ (l : List ℕ). has_second (0 ∷ l)) (sym on) ∙ met_first row.mark (marks_in (drop 6 t) s x) ∙ sym (ap has_second (marks_here t s x 0 whole row is f))
