-- What is found in a table without a board: a section's rows, and how many scopes a table has that
-- was read. Assumes nothing.
use Prim.Native.Nat.{ℕ, suc, ◌+◌, ◌-◌, ◌≤◌, ◌<◌}
use mathlib.Core.Path.{◌≡◌, sym, ap, ◌∙◌}
use mathlib.Core.Logic.{⊎_elim}
use mathlib.Core.List.{List, []}
use native.Mathlib.Omega.{arith}
use native.Mathlib.Numerals.{add-one}
use lib.ListN.{length, get_or, take, drop}
use Rattle.graph_rows.specs.Format.{count_section}
use Rattle.graph_rows.specs.Admission.{Row, value, blank}
use Rattle.graph_rows.specs.Decode.{scopes_of}
use Rattle.graph_rows.specs.Accepted.{AcceptedTable}
use Rattle.graph_file.specs.File.{WasRead}
use Rattle.graph_table.specs.Sections.{leading, first_row, start_of, part_of, rows_of}
use Rattle.graph_table.proofs.Leading.{start_first, start_next, start_within}
use Rattle.graph_table.proofs.Parts.{rows_none, row_at, value_cell}
use Rattle.graph_table.proofs.Tests.{below_or}
use Rattle.board.proofs.Queries.{accepted, rows_are}

-- where a section's rows stand
module _ (k : ℕ) (t : List ℕ) (p : ℕ) (first : p ≡ first_row t) (from : ℕ) (starts : from ≡ p + leading 0 k (drop p t)) where
  from_is : from ≡ start_of k t
  from_is = starts ∙ ap (λ (n : ℕ). n + leading 0 k (drop n t)) first ∙ start_first k t

  pub from_within_lem : from ≤ length t
  from_within_lem = let e = from_is in let w = start_within k t in omega arith

  module _ (to : ℕ) (ends : to ≡ from + leading 0 (k + 1) (drop from t)) where
    to_is : to ≡ start_of (k + 1) t
    to_is =
        let e = from_is in
        ends ∙ ap (λ (n : ℕ). n + leading 0 (k + 1) (drop n t)) e ∙ sym (start_next k (k + 1) t (omega arith))

    pub to_within : (from ≤ to) × (to ≤ length t)
    to_within = let e = to_is in let w = start_within (k + 1) t in (omega arith, omega arith)

    pub part_is : take (to - from) (drop from t) ≡ part_of k t
    unfolding part_of
    part_is =
        ap (λ (n : ℕ). take (n - from) (drop from t)) (to_is ∙ ap (λ (n : ℕ). start_of n t) (add-one k))
        ∙ ap (λ (n : ℕ). take (start_of (suc k) t - n) (drop n t)) from_is

-- a table that was read
module _ (cells : List ℕ) (was : WasRead cells) where
  t : AcceptedTable cells
  t = accepted cells was

  -- the count of scopes stands in the one row of its section
  pub count_is : get_or (part_of count_section cells) 1 0 ≡ scopes_of cells
  unfolding scopes_of
  count_is =
      ⊎_elim
      (λ (few : length (part_of count_section cells) < 6).
      let none : rows_of (part_of count_section cells) ≡ [] = rows_none (part_of count_section cells) 0 (omega arith) in
      let least = t.scopes_least in
      let zero-scopes : scopes_of cells ≡ 0 = ap (λ (l : List Row). value (get_or l 0 blank) 0) (sym (rows_are cells was count_section) ∙ none) in
      absurd (omega arith))
      (λ (six : 6 ≤ length (part_of count_section cells)).
      sym (ap (λ (l : List Row). value (get_or l 0 blank) 0) (sym (rows_are cells was count_section))
      ∙ ap (λ (row : Row). value row 0) (row_at (part_of count_section cells) 0 (omega arith))
      ∙ value_cell (part_of count_section cells) 0 0 (omega arith)))
      (below_or (length (part_of count_section cells)) 6)
