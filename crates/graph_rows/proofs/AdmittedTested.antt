-- The test of an admitted table refuses nothing: rows that are admitted one after the other, and
-- can be written, are gone through to the end. Assumes nothing.
use Prim.Native.Nat.{ℕ, zero, suc, ◌≤◌, ◌<◌}
use mathlib.Core.Path.{◌≡◌, refl, ap, ◌∙◌}
use mathlib.Core.Bool.{true, false}
use mathlib.Core.List.{List, [], ◌∷◌, ◌++◌, append_assoc}
use native.Mathlib.Omega.{arith}
use lib.Dec.{ltb}
use lib.ListN.{length, length-append}
use lib.Seq.{drop_at}
use borrow.Author.Tests.{eq-eqb, ne_eqb, le-ltb, le-leb}
use Rattle.graph_rows.specs.Format.{section_at, shape_at, turn_form}
use Rattle.text_field.specs.Outcome.{done, and_then, refuse_if}
use Rattle.graph_rows.specs.Admission.{Row, Sofar, nothing, begun, taken}
use Rattle.graph_rows.specs.Values.{formed}
use Rattle.graph_rows.specs.Way.{Piece, Stage, after_row, through_rows, after_names, enough, through_section, is_empty, through_sections, ordered, at_start, whole, starts_with}
use Rattle.graph_rows.specs.Tested.{test_names, test_row, testing, form_in, has_form, stage_from, tested}
use Rattle.graph_rows.specs.Formed.{cells_of}
use Rattle.graph_rows.proofs.WayLaws.{rows_take, rows_off}
use Rattle.graph_rows.proofs.DecodeWay.{taken_all, AdmittedRows, table_cells, sofar_after, AdmittedSections, rows_counted, AdmittedTable}
use Rattle.graph_rows.proofs.DecodeRows.{rows_limit}
use Rattle.graph_rows.proofs.DecodePlaces.{row_first}

-- the sections behind a section have no row of it
no_row : (k j : ℕ) (sections : List (List Row)) → k < j → starts_with k (table_cells j sections) ≡ false
unfolding table_cells cells_of starts_with
no_row k j [] h = refl
no_row k j ([] ∷ rest) h = no_row k (suc j) rest (omega arith)
no_row k j ((row ∷ rows) ∷ rest) h = ne_eqb j k (λ e. omega arith)

module _ (form : ℕ) where
  -- a row that can be written
  piece_of : Row → List ℕ → Piece
  piece_of row more = record { row = row; made = []; rest = more }

  row_passes : (k : ℕ) (letters row more : List ℕ) → length row ≡ 5 → formed (shape_at form k).row row ≡ true
      → test_row form k letters (k ∷ (row ++ more)) ≡ done (piece_of row more)
  unfolding piece_of test_row refuse_if
  row_passes k letters row more five f =
      let six : ltb (length (k ∷ (row ++ more))) 6 ≡ false = le-ltb (length (k ∷ (row ++ more))) 6 (omega (arith, length-append row more)) in
      rw (six, row_first k row more five, f, drop_at row more 5 five)

  -- the rows of a section, with no row of it behind them
  rows_pass : (k n : ℕ) (st : Sofar) (rows : List Row) (rest : List ℕ) → AdmittedRows form k st rows → length rows ≤ n → starts_with k rest ≡ false
      → through_rows (testing form) (suc n) k (stage_from st (cells_of k rows ++ rest)) ≡ done (stage_from (taken_all k st rows) rest)
  unfolding cells_of taken_all testing starts_with after_row piece_of stage_from
  rows_pass k n st [] rest h l e = rows_off (testing form) n k (stage_from st rest) e
  rows_pass k zero st (row ∷ rows) rest h l e = absurd (omega arith)
  rows_pass k (suc n) st (row ∷ rows) rest h l e =
      let more = cells_of k rows ++ rest in
      ap (λ (c : List ℕ). through_rows (testing form) (suc (suc n)) k (stage_from st (k ∷ c))) (append_assoc row (cells_of k rows) rest)
      ∙ rows_take (testing form) (suc n) k (stage_from st (k ∷ (row ++ more))) (piece_of row more) (eq-eqb k k refl) (row_passes k st.letters row more h.1 h.3) h.0
      ∙ rows_pass k n (taken k st row) rows rest h.2 (omega arith) e

  section_passes : (k : ℕ) (st : Sofar) (rows : List Row) (rest : List ℕ) → (section_at k).least ≤ length rows
      → through_rows (testing form) (suc (section_at k).most) k (stage_from (begun st) (cells_of k rows ++ rest)) ≡ done (stage_from (taken_all k (begun st) rows) rest)
      → through_section (testing form) k (stage_from st (cells_of k rows ++ rest)) ≡ done (stage_from (taken_all k (begun st) rows) rest)
  unfolding through_section testing test_names and_then after_names enough refuse_if begun stage_from
  section_passes k st rows rest h e =
      let few : ltb (taken_all k (begun st) rows).rows (section_at k).least ≡ false = le-ltb (taken_all k (begun st) rows).rows (section_at k).least (omega (arith, rows_counted k (begun st) rows)) in
      rw (e, few)

  sections_pass : (k : ℕ) (st : Sofar) (sections : List (List Row)) → AdmittedSections form k st sections
      → through_sections (testing form) (length sections) k (stage_from st (table_cells k sections)) ≡ done (stage_from (sofar_after k st sections) [])
  unfolding through_sections refuse_if is_empty table_cells sofar_after and_then begun stage_from
  sections_pass k st [] h = refl
  sections_pass k st (rows ∷ rest) h =
      let limit : length rows ≤ (section_at k).most = let l = rows_limit form k (begun st) rows h.0 (omega arith) in omega arith in
      let r = rows_pass k (section_at k).most (begun st) rows (table_cells (suc k) rest) h.0 limit (no_row k (suc k) rest (omega arith)) in
      rw (section_passes k st rows (table_cells (suc k) rest) h.1 r) (sections_pass (suc k) (taken_all k (begun st) rows) rest h.2)

pub admitted_tested : (cells : List ℕ) → AdmittedTable cells → (g : Stage) × (tested cells ≡ done g)
unfolding tested whole at_start ordered and_then refuse_if stage_from has_form form_in
admitted_tested cells t =
    let s = sections_pass t.form 0 nothing t.sections t.admitted in
    (stage_from (sofar_after 0 nothing t.sections) [], rw (t.cells_are, le-leb t.form turn_form t.known, rw t.count at s, t.order))
