-- Laws of the rows of the entries at a place. Assumes nothing.
use mathlib.Core.Path.{◌≡◌, refl, sym, ap, ◌∙◌}
use mathlib.Core.Bool.{true, false}
use mathlib.Core.List.{List, [], ◌∷◌, ◌++◌}
use Prim.Native.Nat.{ℕ, zero, suc, ◌+◌, ◌-◌, ◌≤◌, ◌<◌, min}
use native.Mathlib.Omega.{arith}
use lib.ListN.{length, take, drop, length-take, drop_of_length-le}
use lib.Seq.{take_all}
use lib.Dec.{leb}
use borrow.Author.Tests.{leb-true, leb-false}
use mathlib.Core.Logic.{◌⊎◌, inl, inr}
use Rattle.scope_graph.proofs.Lists.{Two}
use Rattle.scope_graph.specs.Path.{HopOf}
use Rattle.scope_graph.specs.Turns.{Turned}
use Rattle.scope_graph.specs.Rows.{PackedName}
use Rattle.block.specs.Block.{first_declaration, declared_part}
use Rattle.block.specs.Ask.{ask_name}
use Rattle.board.specs.Marks.{marks_in}
use Rattle.board.proofs.MarkLaws.{marks_none, marks_here, marks_pass}
use Rattle.graph_table.specs.Values.{declaration_row, declares}
use Rattle.graph_table.specs.declared.rows.DeclarationRow.{DeclarationRow}
use Rattle.follow.specs.Text.{row_text}
use Rattle.follow.specs.Walk.{entry_rows, marks_at}

-- the rows of the entries from cell p on, where `row` stands
module _
    (letters : List ℕ)
    (start : ℕ)
    (hops : List (HopOf Turned))
    (cells : List ℕ)
    (s : ℕ)
    (x : PackedName)
    (p : ℕ)
  where
    pub rows_none_left : length cells < p + 6 → entry_rows letters start hops s (marks_in (drop p cells) s x) ≡ []
    unfolding entry_rows
    rows_none_left h = ap (entry_rows letters start hops s) (marks_none cells s x p h)

    module _ (row : DeclarationRow) (is : row ≡ declaration_row cells p) (h : p + 6 ≤ length cells) where
      pub rows_here : declares x s row ≡ true
          → entry_rows letters start hops s (marks_in (drop p cells) s x)
          ≡ (record { at = s; mark = row.mark; text = row_text letters row.mark start hops } ∷ []) ++ entry_rows letters start hops s (marks_in (drop (p + 6) cells) s x)
      unfolding entry_rows
      rows_here e = ap (entry_rows letters start hops s) (marks_here cells s x p h row is e)

      pub rows_pass : declares x s row ≡ false
          → entry_rows letters start hops s (marks_in (drop p cells) s x)
          ≡ [] ++ entry_rows letters start hops s (marks_in (drop (p + 6) cells) s x)
      rows_pass e = ap (entry_rows letters start hops s) (marks_pass cells s x p h row is e)

-- The part of the table that a scope's declarations are, as the code takes it: up to their end or
-- the table's, and from their start on.
take_drop : (n m : ℕ) (l : List ℕ) → take (m - n) (drop n l) ≡ drop n (take m l)
take_drop zero m l = let z : m - 0 ≡ m = omega arith in rw z
take_drop (suc n) zero l = let z : 0 - suc n ≡ 0 = omega arith in rw z
take_drop (suc n) (suc m) [] = none (suc m - suc n)
  where
    none : (k : ℕ) → take {A = ℕ} k [] ≡ []
    none zero = refl
    none (suc k) = refl
take_drop (suc n) (suc m) (x ∷ l) = let z : suc m - suc n ≡ m - n = omega arith in rw z (take_drop n m l)

module _ (block table ask : List ℕ) (s from end : ℕ) (starts : from ≡ first_declaration block s) where
  pub marks_part : take end table ≡ take (first_declaration block (suc s)) table
      → marks_in (drop from (take end table)) s (ask_name ask) ≡ marks_at block table ask s
  unfolding marks_at declared_part
  marks_part e =
      ap (λ (x : List ℕ). marks_in x s (ask_name ask))
      (rw (e, starts) (sym (take_drop (first_declaration block s) (first_declaration block (suc s)) table)))

-- a part of the cells whose ends are clipped to where these end
pub clipped_part : (n m from end : ℕ) (l : List ℕ) → end ≡ min m (length l) → from ≡ min n end → take (end - from) (drop from l) ≡ take (m - n) (drop n l)
clipped_part n m from end l e f =
    take_drop from end l ∙ by_start (Two (leb n end)) ∙ ap (drop n) (by_end (Two (leb m (length l)))) ∙ sym (take_drop n m l)
  where
    by_end : (leb m (length l) ≡ true) ⊎ (leb m (length l) ≡ false) → take end l ≡ take m l
    by_end (inl y) = let same : end ≡ m = omega (arith, leb-true m (length l) y) in rw same
    by_end (inr y) = let past = leb-false m (length l) y in rw (take_all end l (omega arith), take_all m l (omega arith))

    by_start : (leb n end ≡ true) ⊎ (leb n end ≡ false) → drop from (take end l) ≡ drop n (take end l)
    by_start (inl y) = let same : from ≡ n = omega (arith, leb-true n end y) in rw same
    by_start (inr y) =
        let past = leb-false n end y
        in rw (drop_of_length-le (take end l) {i = from} (omega (arith, length-take end l)), drop_of_length-le (take end l) {i = n} (omega (arith, length-take end l)))
