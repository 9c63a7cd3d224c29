-- Where the sections of a formed table stand, and how many labels it has. Assumes nothing.
use Prim.Native.Nat.{ℕ, suc, ◌-◌, ◌*◌, ◌/◌, ◌≤◌, ◌<◌}
use mathlib.Core.Path.{◌≡◌, refl, ap, ◌∙◌}
use mathlib.Core.List.{List, [], ◌∷◌, ◌++◌}
use native.Mathlib.Omega.{arith}
use lib.Dec.{ltb}
use lib.ListN.{length, get_or, length-append, length-map}
use borrow.Author.Tests.{lt-ltb, le-ltb}
use Rattle.scope_graph.proofs.Lists.{here, there}
use Rattle.graph_rows.specs.Format.{label_section}
use Rattle.graph_rows.specs.Admission.{Row, value}
use Rattle.graph_rows.specs.Tested.{form_in}
use Rattle.graph_rows.specs.Decode.{rows_in, letters_of}
use Rattle.graph_rows.specs.Formed.{cells_of, cells_from, table_of, FormedTable}
use Rattle.graph_table.specs.Sections.{start_of}
use Rattle.graph_change.proofs.Leading.{leading_is}
use Rattle.graph_change.proofs.SectionLaws.{Five, sections_add, front_from, front_stops, pass_sections}

pub cells_size : (k : ℕ) (rows : List Row) → Five rows → length (cells_of k rows) ≡ 6 * length rows
unfolding cells_of
cells_size k [] five = refl
cells_size k (row ∷ rows) five =
    let l = length-append row (cells_of k rows) in
    let f = five row here in
    let r = cells_size k rows (λ x m. five x (there m)) in
    omega arith

module _ (cells : List ℕ) (t : FormedTable cells) where
  abbrev rows : ℕ → List Row
  rows k = rows_in k cells

  pub five : (k : ℕ) → k < 9 → Five (rows k)
  five k h row m = ((t.rows.sections k h).each row m).five

  -- the cells before section k, and those from it on
  parted : (k : ℕ) → k < 9 → cells ≡ (form_in cells ∷ cells_from k 0 rows) ++ cells_from (9 - k) k rows
  unfolding table_of
  parted k h = t.in_turn ∙ ap (λ (l : List ℕ). form_in cells ∷ l) (sections_add k (9 - k) 9 0 k rows (omega arith) (omega arith))

  start_is : (k : ℕ) → k < 9 → start_of k cells ≡ suc (length (cells_from k 0 rows))
  unfolding start_of
  start_is k h =
      let e = leading_is k (cells_from k 0 rows ++ cells_from (9 - k) k rows) in
      let p = pass_sections (λ (c : List ℕ). ltb (get_or c 0 0) k) k 0 rows (cells_from (9 - k) k rows) (λ i a b. five i (omega arith)) (λ i a b l. lt-ltb i k (omega arith)) in
      let f = front_from (9 - k) k rows (λ i a b. five i (omega arith)) in
      let s = front_stops (λ (c : List ℕ). ltb (get_or c 0 0) k) k (cells_from (9 - k) k rows) f (λ s a l. le-ltb s k a) in
      ap (start_of k) (parted k h) ∙ omega arith

  -- labels
  pub labels_are : length (letters_of cells) ≡ length (rows_in label_section cells)
  unfolding letters_of
  labels_are = length-map (rows_in label_section cells) (λ (row : Row). value row 0)

  pub label_count : (start_of 1 cells - 1) / 6 ≡ length (letters_of cells)
  unfolding cells_from
  label_count =
      let s = start_is 1 (omega arith) in
      let n = cells_size 0 (rows 0) (five 0 (omega arith)) in
      let l = labels_are in
      let a = length-append (cells_of 0 (rows 0)) [] in
      omega arith

  pub some_cell : 1 ≤ length cells
  unfolding table_of
  some_cell = let l = ap length t.in_turn in omega arith
