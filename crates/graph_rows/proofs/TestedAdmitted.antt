-- A table that its test refuses nothing of is, section by section, rows each of which was admitted
-- after those before it. Assumes nothing.
use Prim.Native.Nat.{ℕ, zero, suc, ◌≤◌}
use mathlib.Core.Path.{◌≡◌, refl, sym, ap, subst, ◌∙◌}
use mathlib.Core.Bool.{true, not}
use mathlib.Core.Logic.{⊎_elim}
use mathlib.Core.List.{List, [], ◌∷◌, ◌++◌, append_assoc}
use native.Mathlib.Omega.{arith}
use lib.ListN.{length, drop}
use Rattle.graph_rows.specs.Format.{section_at, shape_at}
use Rattle.text_field.specs.Outcome.{done}
use Rattle.graph_rows.specs.Admission.{Row, Sofar, nothing, begun, admission, row_of}
use Rattle.graph_rows.specs.Values.{formed}
use Rattle.graph_rows.specs.Way.{Piece, Stage, after_row, one_row, through_rows, after_names, through_section, through_sections, starts_with}
use Rattle.graph_rows.specs.Tested.{test_names, test_row, testing, has_form, form_in, tested}
use Rattle.graph_rows.specs.Formed.{cells_of}
use Rattle.graph_rows.proofs.DecodeWay.{and_then_done, refuse_if_done, done_is, either_done, taken_all, AdmittedRows, table_cells, sofar_after, AdmittedSections, rows_counted, row_split, section_split, empty_nil, form_first, known_form, AdmittedTable, whole_split, split_six}
use Rattle.graph_rows.proofs.RowLaws.{row_of_five}
use lib.Dec.{ltb}
use borrow.Author.Tests.{ltb-false, not-false}

-- what testing a row takes and leaves
pub record RowTested (form k : ℕ) (s : List ℕ) (p : Piece) : Type 0 where
  pub stands : s ≡ (k ∷ row_of s) ++ drop 6 s
  pub proper : formed (shape_at form k).row (row_of s) ≡ true
  pub piece : p ≡ record { row = row_of s; made = []; rest = drop 6 s }

pub row_tested : (form k : ℕ) (letters s : List ℕ) (p : Piece) → starts_with k s ≡ true → test_row form k letters s ≡ done p → RowTested form k s p
unfolding test_row
row_tested form k letters s p h e =
    let a = refuse_if_done (ltb (length s) 6) 2 _ e in
    let b = refuse_if_done (not (formed (shape_at form k).row (row_of s))) 2 _ a.1 in
    record { stands = split_six k s h (ltb-false (length s) 6 a.0); proper = not-false _ b.0; piece = sym (done_is b.1) }

module _ (form : ℕ) where
  -- a row stands at the front of the cells: five values, which can be written
  record Front (k : ℕ) (cells : List ℕ) (p : Piece) : Type 0 where
    five : length p.row ≡ 5
    proper : formed (shape_at form k).row p.row ≡ true
    stands : cells ≡ (k ∷ p.row) ++ p.rest

  row_front : (k : ℕ) (letters cells : List ℕ) (p : Piece) → starts_with k cells ≡ true → test_row form k letters cells ≡ done p → Front k cells p
  row_front k letters cells p m e =
      let w = row_tested form k letters cells p m e in
      subst (Front k cells) (sym w.piece) (record { five = row_of_five cells; proper = w.proper; stands = w.stands })

  -- from stage g the test has come to stage h by rows of section k
  record RowsTaken (k : ℕ) (g h : Stage) : Type 0 where
    rows : List Row
    admitted : AdmittedRows form k g.sofar rows
    sofar : h.sofar ≡ taken_all k g.sofar rows
    front : g.rest ≡ cells_of k rows ++ h.rest

  -- no row, and one row more
  none_taken : (k : ℕ) (g h : Stage) → g ≡ h → RowsTaken k g h
  unfolding taken_all cells_of
  none_taken k g h e = record {
    rows = [];
    admitted = tt;
    sofar = ap (λ (s : Stage). s.sofar) (sym e);
    front = ap (λ (s : Stage). s.rest) e;
  }

  one_taken : (k : ℕ) (g h : Stage) (p : Piece) → admission form k g.sofar p.row ≡ 0 → Front k g.rest p → RowsTaken k (after_row k g p) h
      → RowsTaken k g h
  unfolding taken_all cells_of after_row
  one_taken k g h p a f r = record {
    rows = p.row ∷ r.rows;
    admitted = (a, f.five, r.admitted, f.proper);
    sofar = r.sofar;
    front = f.stands ∙ ap (λ (l : List ℕ). (k ∷ p.row) ++ l) r.front ∙ sym (append_assoc (k ∷ p.row) (cells_of k r.rows) h.rest);
  }

  rows_taken : (turns k : ℕ) (g h : Stage) → through_rows (testing form) turns k g ≡ done h → RowsTaken k g h
  unfolding through_rows testing
  rows_taken zero k g h e = absurd (let z : ◌≡◌ {A = ℕ} 0 1 = cc in omega arith)
  rows_taken (suc turns) k g h e =
      ⊎_elim
      (λ c.
      let m = and_then_done (one_row (testing form) k g) (through_rows (testing form) turns k) c.1 in
      let r = row_split (testing form) k g m.0 m.1 in
      let on : through_rows (testing form) turns k (after_row k g r.0) ≡ done h = ap (through_rows (testing form) turns k) r.3 ∙ m.2 in
      one_taken k g h r.0 r.2 (row_front k g.sofar.letters g.rest r.0 c.0 r.1) (rows_taken turns k (after_row k g r.0) h on))
      (λ c. none_taken k g h (done_is c.1))
      (either_done ((testing form).more k g.rest) _ _ e)

  -- the rows taken are enough
  rows_enough : (k : ℕ) (g h : Stage) (p : Piece) (r : RowsTaken k (after_names g p) h) → (section_at k).least ≤ h.sofar.rows
      → (section_at k).least ≤ length r.rows
  unfolding after_names begun
  rows_enough k g h p r e =
      let s : h.sofar.rows ≡ (taken_all k (begun g.sofar) r.rows).rows = ap (λ (x : Sofar). x.rows) r.sofar in
      omega (arith, rows_counted k (begun g.sofar) r.rows)

  -- from stage g the test has come to stage h by sections from section k on, and nothing is left
  record SectionsTaken (left k : ℕ) (g h : Stage) : Type 0 where
    sections : List (List Row)
    count : length sections ≡ left
    admitted : AdmittedSections form k g.sofar sections
    sofar : h.sofar ≡ sofar_after k g.sofar sections
    cells : g.rest ≡ table_cells k sections

  names_rest : (k : ℕ) (rest : List ℕ) (p : Piece) → test_names k rest ≡ done p → rest ≡ p.rest
  unfolding test_names
  names_rest k rest p e = ap (λ (x : Piece). x.rest) (done_is e)

  one_section : (left k : ℕ) (g m h : Stage) (p : Piece) (r : RowsTaken k (after_names g p) m) → g.rest ≡ p.rest → (section_at k).least ≤ m.sofar.rows
      → SectionsTaken left (suc k) m h → SectionsTaken (suc left) k g h
  unfolding after_names begun sofar_after table_cells
  one_section left k g m h p r n e s = record {
    sections = r.rows ∷ s.sections;
    count = ap suc s.count;
    admitted = (r.admitted, rows_enough k g m p r e, rw r.sofar at s.admitted);
    sofar = s.sofar ∙ ap (λ (x : Sofar). sofar_after (suc k) x s.sections) r.sofar;
    cells = n ∙ r.front ∙ ap (λ (l : List ℕ). cells_of k r.rows ++ l) s.cells;
  }

  sections_taken : (left k : ℕ) (g h : Stage) → through_sections (testing form) left k g ≡ done h → SectionsTaken left k g h
  unfolding through_sections testing sofar_after table_cells
  sections_taken zero k g h e =
      let c = refuse_if_done _ _ _ e in
      record {
        sections = [];
        count = refl;
        admitted = tt;
        sofar = ap (λ (x : Stage). x.sofar) (sym (done_is c.1));
        cells = empty_nil g.rest c.0;
      }
  sections_taken (suc left) k g h e =
      let c = and_then_done (through_section (testing form) k g) (through_sections (testing form) left (suc k)) e in
      let s = section_split (testing form) k g c.0 c.1 in
      let r = rows_taken (suc (section_at k).most) k (after_names g s.0) c.0 s.2 in
      one_section left k g c.0 h s.0 r (names_rest k g.rest s.0 s.1) s.3 (sections_taken left (suc k) c.0 h c.2)

pub tested_admitted : (cells : List ℕ) (g : Stage) → tested cells ≡ done g → AdmittedTable cells
unfolding tested
tested_admitted cells g e =
    let form = form_in cells in
    let h = refuse_if_done (not (has_form cells)) 2 _ e in
    let known = not-false _ h.0 in
    let o = whole_split (testing form) [] (drop 1 cells) g h.1 in
    let s = sections_taken form 9 0 (record { sofar = nothing; made = []; rest = drop 1 cells }) g o.0 in
    record {
      form = form;
      known = known_form cells known;
      sections = s.sections;
      count = s.count;
      cells_are = form_first cells known ∙ ap (λ (l : List ℕ). form ∷ l) s.cells;
      admitted = s.admitted;
      order = rw s.sofar at o.1;
    }
