-- The declarations of a scope are those of its part of the table: they stand by ascending scope.
-- Assumes nothing.
use Prim.Native.Nat.{ℕ, zero, suc, ◌+◌, ◌-◌, ◌≤◌, ◌<◌}
use mathlib.Core.Path.{◌≡◌, refl, sym, ap, ◌∙◌}
use mathlib.Core.Logic.{⊎_elim}
use mathlib.Core.List.{List, [], ◌∷◌}
use native.Mathlib.Omega.{arith}
use native.Mathlib.Nat.{sub-zero}
use lib.ListN.{length, take, drop, length-drop}
use lib.Seq.{take-nil, take-take, drop-drop, take-add, length-take-le}
use Rattle.scope_graph.specs.Rows.{PackedName}
use Rattle.graph_rows.specs.Format.{declaration_section}
use Rattle.graph_table.specs.Rows.{RowsAscend}
use Rattle.block.specs.Block.{declared_part}
use Rattle.graph_table.specs.Sections.{leading, start_of, part_of, rows_of}
use Rattle.graph_table.specs.Values.{row_declared, declares}
use Rattle.graph_table.proofs.RowLaws.{declares_apart}
use Rattle.board.specs.Marks.{declared_here, marks_of, marks_in, declared_cell}
use Rattle.board.specs.Promises.{DeclaredIs}
use Rattle.graph_table.proofs.Tests.{below_or}
use Rattle.graph_table.proofs.Leading.{leading_yes, leading_no, leading_within, start_within}
use Rattle.board.proofs.SectionLaws.{between, between_later}

module _ (s : ℕ) (x : PackedName) where
  abbrev marks : List ℕ → List ℕ
  marks l = marks_in l s x

  -- a row of another scope, and rows of later scopes
  marks_other : (a at c d e f : ℕ) (cells : List ℕ) → (at ≡ s → ⊥) → marks (a ∷ at ∷ c ∷ d ∷ e ∷ f ∷ cells) ≡ marks cells
  unfolding marks_in marks_of rows_of declared_here
  marks_other a at c d e f cells n = rw (declares_apart x s (row_declared (at ∷ c ∷ d ∷ e ∷ f ∷ [])) n, declared_here)

  marks_none : (m : ℕ) (l : List ℕ) → RowsAscend m l → s < m → marks l ≡ []
  unfolding marks_in marks_of rows_of
  marks_none m [] h i = refl
  marks_none m (a ∷ []) h i = refl
  marks_none m (a ∷ b ∷ []) h i = refl
  marks_none m (a ∷ b ∷ c ∷ []) h i = refl
  marks_none m (a ∷ b ∷ c ∷ d ∷ []) h i = refl
  marks_none m (a ∷ b ∷ c ∷ d ∷ e ∷ []) h i = refl
  marks_none m (a ∷ b ∷ c ∷ d ∷ e ∷ f ∷ l) h i =
      let n = h.0 in
      marks_other a b c d e f l (λ x. omega arith) ∙ marks_none b l h.1 (omega arith)

  -- no row stands before those of the least scope
  leading_none : (m : ℕ) (l : List ℕ) → RowsAscend m l → s ≤ m → leading 1 s l ≡ 0
  unfolding leading
  leading_none m [] h i = refl
  leading_none m (a ∷ []) h i = refl
  leading_none m (a ∷ b ∷ []) h i = refl
  leading_none m (a ∷ b ∷ c ∷ []) h i = refl
  leading_none m (a ∷ b ∷ c ∷ d ∷ []) h i = refl
  leading_none m (a ∷ b ∷ c ∷ d ∷ e ∷ []) h i = refl
  leading_none m (a ∷ b ∷ c ∷ d ∷ e ∷ f ∷ l) h i =
      let n = h.0 in leading_no 1 s (a ∷ b ∷ c ∷ d ∷ e ∷ f ∷ l) (omega arith) (omega arith)

  abbrev own : List ℕ → List ℕ
  own l = between (leading 1 s l) (leading 1 (suc s) l) l

  marks_first : (a b c d e f y : ℕ) (l : List ℕ) → marks (between 0 (6 + y) (a ∷ b ∷ c ∷ d ∷ e ∷ f ∷ l))
      ≡ declared_here (declares x s (row_declared (b ∷ c ∷ d ∷ e ∷ f ∷ []))) (row_declared (b ∷ c ∷ d ∷ e ∷ f ∷ [])).mark (marks (between 0 y l))
  unfolding marks_in marks_of rows_of between
  marks_first a b c d e f y l = rw (sub-zero (6 + y), sub-zero y, take-add 6 y (a ∷ b ∷ c ∷ d ∷ e ∷ f ∷ l))

  marks_six : (a b c d e f : ℕ) (l : List ℕ) → RowsAscend b l → marks (own l) ≡ marks l
      → marks (own (a ∷ b ∷ c ∷ d ∷ e ∷ f ∷ l)) ≡ marks (a ∷ b ∷ c ∷ d ∷ e ∷ f ∷ l)
  unfolding marks_in marks_of rows_of between
  marks_six a b c d e f l up i =
      let row = a ∷ b ∷ c ∷ d ∷ e ∷ f ∷ l in
      ⊎_elim
      (λ (y : b < s).
      rw (leading_yes 1 s row (omega arith) y, leading_yes 1 (suc s) row (omega arith) (omega arith))
      (ap marks (between_later a b c d e f (leading 1 s l) (leading 1 (suc s) l) l) ∙ i ∙ sym (marks_other a b c d e f l (λ x. omega arith))))
      (λ (n : s ≤ b). ⊎_elim
      (λ (y : s < b).
      rw (leading_no 1 s row (omega arith) n, leading_no 1 (suc s) row (omega arith) (omega arith))
      (sym (marks_none b row (omega arith, up) y)))
      (λ (m : b ≤ s).
      let z : marks (between 0 (leading 1 (suc s) l) l) ≡ marks l = rw (leading_none b l up n) at i in
      rw (leading_no 1 s row (omega arith) n, leading_yes 1 (suc s) row (omega arith) (omega arith))
      (marks_first a b c d e f (leading 1 (suc s) l) l ∙ ap (declared_here (declares x s (row_declared (b ∷ c ∷ d ∷ e ∷ f ∷ []))) (row_declared (b ∷ c ∷ d ∷ e ∷ f ∷ [])).mark) z))
      (below_or s b))
      (below_or b s)

  pub own_marks : (m : ℕ) (l : List ℕ) → RowsAscend m l → marks (own l) ≡ marks l
  unfolding leading marks_in marks_of rows_of between
  own_marks m [] h = refl
  own_marks m (a ∷ []) h = refl
  own_marks m (a ∷ b ∷ []) h = refl
  own_marks m (a ∷ b ∷ c ∷ []) h = refl
  own_marks m (a ∷ b ∷ c ∷ d ∷ []) h = refl
  own_marks m (a ∷ b ∷ c ∷ d ∷ e ∷ []) h = refl
  own_marks m (a ∷ b ∷ c ∷ d ∷ e ∷ f ∷ l) h = marks_six a b c d e f l h.1 (own_marks b l h.1)

-- what stands between two places of a part stands there in the whole
drop_take : (x n : ℕ) (l : List ℕ) → drop x (take n l) ≡ take (n - x) (drop x l)
drop_take zero n l = let z : n - 0 ≡ n = sub-zero n in rw z
drop_take (suc x) zero l = let z : 0 - suc x ≡ 0 = omega arith in rw z
drop_take (suc x) (suc n) [] = sym (take-nil (suc n - suc x))
drop_take (suc x) (suc n) (a ∷ l) = let z : suc n - suc x ≡ n - x = omega arith in rw z (drop_take x n l)

take_inside : (n x y : ℕ) (l : List ℕ) → y ≤ n → between x y (take n l) ≡ take (y - x) (drop x l)
unfolding between
take_inside n x y l h = rw (drop_take x n l) (take-take (y - x) (n - x) (drop x l) (omega arith))

module _ (cells : List ℕ) (s : ℕ) where
  abbrev start : ℕ
  start = start_of declaration_section cells

  abbrev part : List ℕ
  part = part_of declaration_section cells

  abbrev from : ℕ → ℕ
  from u = declared_cell start part u

  part_size : length part ≡ start_of (suc declaration_section) cells - start
  unfolding part_of
  part_size =
      let most = start_within (suc declaration_section) cells in
      let rest = length-drop start cells in
      length-take-le (start_of (suc declaration_section) cells - start) (drop start cells) (omega arith)

  part_own : take (from (suc s) - from s) (drop (from s) cells) ≡ between (leading 1 s part) (leading 1 (suc s) part) part
  unfolding declared_cell part_of
  part_own =
      let many : start + leading 1 (suc s) part - (start + leading 1 s part) ≡ leading 1 (suc s) part - leading 1 s part = omega arith in
      let size = part_size in
      let most = leading_within 1 (suc s) part in
      ap (λ n. take n (drop (start + leading 1 s part) cells)) many
      ∙ ap (take (leading 1 (suc s) part - leading 1 s part)) (sym (drop-drop (leading 1 s part) start cells))
      ∙ sym (take_inside (start_of (suc declaration_section) cells - start) (leading 1 s part) (leading 1 (suc s) part) (drop start cells) (omega arith))

pub declared_is : DeclaredIs
unfolding declared_part
declared_is cells block sound made s x h =
    rw (made.declared s (omega arith), made.declared (suc s) (omega arith))
    (ap (λ (l : List ℕ). marks_in l s x) (part_own cells s)
    ∙ own_marks s x 0 (part_of declaration_section cells) sound.declarations_ascend)
