-- The rows of each section of an admitted table stand together, at the section's place. Assumes
-- nothing.
use Prim.Native.Nat.{ℕ, zero, suc, ◌+◌, ◌*◌, ◌≤◌, ◌<◌}
use mathlib.Core.Path.{◌≡◌, refl, sym, ap, ◌∙◌}
use mathlib.Core.List.{List, [], ◌∷◌, ◌++◌, append-nil, append_assoc}
use native.Mathlib.Omega.{arith}
use lib.ListN.{length, get_or, drop, length-append, drop_of_length-le}
use lib.Seq.{drop-cons, drop-drop, drop_at}
use borrow.Author.Tests.{eq-eqb, ne_eqb}
use Rattle.graph_rows.specs.Format.{labels, pairs, transitions, accepts, scope_count, edges, declarations, open_pairs, queries, sections, section_at}
use Rattle.graph_rows.specs.Admission.{Row, row_of, Sofar, begun, taken}
use Rattle.graph_rows.specs.Table.{rows_at}
use Rattle.graph_rows.specs.Decode.{rows_in, section_place}
use Rattle.graph_rows.proofs.DecodeWay.{AdmittedRows, cells_of, table_cells, AdmittedTable}
use Rattle.graph_rows.proofs.DecodeSections.{joined_if, gathered, gathered_later}
use Rattle.graph_rows.proofs.DecodeTable.{rows_are, section_in, table_limit}

-- six cells to a row
pub cells_length : (form k : ℕ) (st : Sofar) (rows : List Row) → AdmittedRows form k st rows → length (cells_of k rows) ≡ 6 * length rows
unfolding cells_of
cells_length form k st [] h = refl
cells_length form k st (row ∷ rows) h =
    let five = h.1 in
    omega (arith, cells_length form k (taken k st row) rows h.2, length-append row (cells_of k rows))

pub row_first : (k : ℕ) (row more : List ℕ) → length row ≡ 5 → row_of (k ∷ (row ++ more)) ≡ row
unfolding row_of
row_first k [] more h = absurd (omega arith)
row_first k (a ∷ []) more h = absurd (omega arith)
row_first k (a ∷ b ∷ []) more h = absurd (omega arith)
row_first k (a ∷ b ∷ c ∷ []) more h = absurd (omega arith)
row_first k (a ∷ b ∷ c ∷ d ∷ []) more h = absurd (omega arith)
row_first k (a ∷ b ∷ c ∷ d ∷ e ∷ []) more h = refl
row_first k (a ∷ b ∷ c ∷ d ∷ e ∷ f ∷ l) more h = absurd (omega arith)

rows_first : (form k : ℕ) (st : Sofar) (rows : List Row) (more : List ℕ) → AdmittedRows form k st rows → rows_at (length rows) (cells_of k rows ++ more) ≡ rows
unfolding rows_at cells_of
rows_first form k st [] more h = refl
rows_first form k st (row ∷ rows) more h =
    rw (append_assoc row (cells_of k rows) more, row_first k row (cells_of k rows ++ more) h.1, drop_at row (cells_of k rows ++ more) 5 h.1)
    (ap (λ (l : List Row). row ∷ l) (rows_first form k (taken k st row) rows more h.2))

-- the lists hold section k's rows at place k
pub gathered_at : (j k i : ℕ) (sections : List (List Row)) → j ≡ k + i → gathered j k sections ≡ get_or sections i []
unfolding gathered joined_if
gathered_at j k i [] e = refl
gathered_at j k zero (rows ∷ rest) e =
    rw (eq-eqb k j (omega arith), gathered_later j (suc k) rest (omega arith), append-nil rows)
gathered_at j k (suc i) (rows ∷ rest) e = rw (ne_eqb k j (λ s. omega arith)) (gathered_at j (suc k) i rest (omega arith))

module _ (cells : List ℕ) (t : AdmittedTable cells) where
  pub listed_at : (k : ℕ) → get_or t.sections k [] ≡ rows_in k cells
  listed_at k = sym (gathered_at k 0 k t.sections (omega arith)) ∙ rows_are cells t k

  -- from a section's place on: its rows' cells, and those of the sections after it
  place_split : (k : ℕ) → k < 9 → drop (section_place k cells) cells ≡ table_cells k (drop k t.sections)
      → drop (section_place k cells) cells ≡ cells_of k (rows_in k cells) ++ table_cells (suc k) (drop (suc k) t.sections)
  unfolding table_cells
  place_split k h e =
      let c = t.count in
      e ∙ ap (table_cells k) (drop-cons t.sections k [] (omega arith) ∙ ap (λ (l : List Row). l ∷ drop (suc k) t.sections) (listed_at k))

  place_cells : (k : ℕ) → k ≤ 9 → drop (section_place k cells) cells ≡ table_cells k (drop k t.sections)
  unfolding section_place
  place_cells zero h = ap (λ (l : List ℕ). drop 1 l) t.cells_are
  place_cells (suc k) h =
      let s = section_in cells t k (omega arith) in
      sym (drop-drop (6 * length (rows_in k cells)) (section_place k cells) cells)
      ∙ ap (drop (6 * length (rows_in k cells))) (place_split k (omega arith) (place_cells k (omega arith)))
      ∙ drop_at (cells_of k (rows_in k cells)) (table_cells (suc k) (drop (suc k) t.sections)) (6 * length (rows_in k cells)) (cells_length t.form k (begun s.before) (rows_in k cells) s.admitted)

  pub table_rows : (k : ℕ) → k < 9 → rows_at (length (rows_in k cells)) (drop (section_place k cells) cells) ≡ rows_in k cells
  table_rows k h =
      let s = section_in cells t k h in
      ap (rows_at (length (rows_in k cells))) (place_split k h (place_cells k (omega arith)))
      ∙ rows_first t.form k (begun s.before) (rows_in k cells) (table_cells (suc k) (drop (suc k) t.sections)) s.admitted

  -- the table ends where the last section does
  rest_length : (k : ℕ) → k < 9 → length (table_cells k (drop k t.sections)) ≡ 6 * length (rows_in k cells) + length (table_cells (suc k) (drop (suc k) t.sections))
  unfolding table_cells
  rest_length k h =
      let c = t.count in
      let s = section_in cells t k h in
      ap (λ (l : List (List Row)). length (table_cells k l)) (drop-cons t.sections k [] (omega arith) ∙ ap (λ (l : List Row). l ∷ drop (suc k) t.sections) (listed_at k))
      ∙ length-append (cells_of k (rows_in k cells)) (table_cells (suc k) (drop (suc k) t.sections))
      ∙ ap (λ n. n + length (table_cells (suc k) (drop (suc k) t.sections))) (cells_length t.form k (begun s.before) (rows_in k cells) s.admitted)

  length_from : (k : ℕ) → k ≤ 9 → length cells ≡ section_place k cells + length (table_cells k (drop k t.sections))
  unfolding section_place
  length_from zero h = ap (λ (l : List ℕ). length l) t.cells_are ∙ omega arith
  length_from (suc k) h = length_from k (omega arith) ∙ omega (arith, rest_length k (omega arith))

  pub table_length : length cells ≡ section_place 9 cells
  unfolding table_cells
  table_length =
      let c = t.count in
      length_from 9 (omega arith) ∙ rw (drop_of_length-le t.sections {i = 9} (omega arith)) (omega arith)

  -- by the limits of the sections, in all 2,045 rows
  pub table_most : length cells ≤ 12271
  unfolding section_place section_at sections labels pairs transitions accepts scope_count edges declarations open_pairs queries
  table_most =
      let a : length (rows_in 0 cells) ≤ 8 = table_limit cells t 0 (omega arith) in
      let b : length (rows_in 1 cells) ≤ 36 = table_limit cells t 1 (omega arith) in
      let c : length (rows_in 2 cells) ≤ 128 = table_limit cells t 2 (omega arith) in
      let d : length (rows_in 3 cells) ≤ 16 = table_limit cells t 3 (omega arith) in
      let e : length (rows_in 4 cells) ≤ 1 = table_limit cells t 4 (omega arith) in
      let f : length (rows_in 5 cells) ≤ 512 = table_limit cells t 5 (omega arith) in
      let g : length (rows_in 6 cells) ≤ 512 = table_limit cells t 6 (omega arith) in
      let h : length (rows_in 7 cells) ≤ 576 = table_limit cells t 7 (omega arith) in
      let i : length (rows_in 8 cells) ≤ 256 = table_limit cells t 8 (omega arith) in
      omega (arith, table_length)
