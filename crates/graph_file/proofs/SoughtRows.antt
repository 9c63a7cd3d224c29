-- A written file ends with the line of each of its query rows. Assumes nothing.
use Prim.Native.Nat.{ℕ, zero, suc, ◌+◌}
use mathlib.Core.Path.{◌≡◌, refl, sym, ap, ◌∙◌}
use mathlib.Core.Bool.{Bool, true, false}
use mathlib.Core.Logic.{⊎_elim}
use mathlib.Core.List.{List, [], ◌∷◌, ◌++◌, append-nil, append_assoc}
use native.Mathlib.Omega.{arith}
use lib.Dec.{eqb, ltb}
use lib.ListN.{length, drop}
use borrow.Author.Tests.{eq-eqb, ne_eqb, leb-true}
use Rattle.scope_graph.specs.Language.{◌∈◌}
use Rattle.text_field.specs.Bytes.{is_lower}
use Rattle.text_field.specs.Number.{number_text}
use Rattle.text_field.specs.Name.{name_text}
use Rattle.scope_graph.proofs.Lists.{here, there, and_left}
use Rattle.graph_rows.specs.Format.{Item, field, scope, name, kind, plain, every_item, section_at, has_kinds, query_shape, shapes_of, shape_at, query_section}
use Rattle.text_field.specs.Outcome.{done}
use Rattle.graph_rows.specs.Admission.{Row, value, row_of, blank, begun, taken}
use Rattle.graph_file.specs.Line.{line_text, item_text, field_text}
use Rattle.graph_rows.specs.Values.{formed, item_formed, field_formed}
use Rattle.graph_rows.specs.Way.{Piece, Stage, after_row, one_row, through_rows, after_names, through_section, through_sections, at_start}
use Rattle.graph_file.specs.File.{reading, writing, write_names, form_of, read_stage, made_of, read_cells}
use Rattle.graph_rows.specs.Tested.{form_in}
use Rattle.graph_file.specs.Sought.{shown_kind}
use Rattle.graph_rows.specs.Decode.{kept_if, rows_among, rows_in}
use Rattle.graph_rows.proofs.DecodeWay.{and_then_done, refuse_if_done, done_is, either_done, row_split, section_split, empty_nil, whole_split}
use Rattle.graph_rows.proofs.DecodeSections.{joined_if, among_row, kept_joined, joined_none}
use Rattle.graph_rows.proofs.DecodeRows.{item_in}
use Rattle.graph_file.proofs.Promises.{items_formed}
use Rattle.graph_rows.proofs.DecodeKinds.{plain_lower}
use Rattle.graph_file.proofs.InverseField.{lower_byte}
use Rattle.graph_file.proofs.InverseFile.{form_read}
use Rattle.graph_file.proofs.InverseWays.{whole_back}
use Rattle.graph_file.proofs.InverseReading.{reading_mirrored}
use Rattle.graph_file.proofs.InverseWriting.{row_written_lem}
use Rattle.graph_rows.proofs.RowLaws.{row_of_five}
use Rattle.graph_file.proofs.SoughtLines.{between, row_line, row_lines, Named, AllNamed}

-- what a query line's items say of the row, in either form
named : (t : Bool) (row : Row) → ((i : Item) → i ∈ (query_shape t).row → item_formed row i ≡ true) → Named row
unfolding query_shape item_formed field_formed
named true row h = record { scope = leb-true _ _ (h (field scope 0) here); kind = h (field kind 1) (there (there here)); name = h (field name 2) (there (there (there (there here)))) }
named false row h = record { scope = leb-true _ _ (h (field scope 0) here); kind = plain_lower (value row 1) (h (field plain 1) (there (there here))); name = h (field name 2) (there (there (there here))) }

kind_formed : (t : Bool) (row : Row) → every_item (item_formed row) (query_shape t).row ≡ true → is_lower (value row 1) ≡ true
kind_formed t row h = (named t row (λ i m. item_in (item_formed row) (query_shape t).row i m h)).kind

-- a row's line of items that were of its form is its text, whatever the letters
line_is : (t : Bool) (letters : List ℕ) (row : Row) → every_item (item_formed row) (query_shape t).row ≡ true → line_text letters (query_shape t).row row ≡ row_line t row
unfolding line_text item_text field_text query_shape row_line between shown_kind
line_is true letters row h =
    let low : is_lower (value row 1) ≡ true = kind_formed true row h in
    ap (λ (b : ℕ). number_text (value row 0) ++ (32 ∷ b ∷ 32 ∷ (name_text (value row 2) (value row 3) ++ (10 ∷ [])))) (lower_byte (value row 1) low)
line_is false letters row h = refl

-- the rows of a table that was read have names
rows_named : (rows : List Row) → ((row : Row) → row ∈ rows → Named row) → AllNamed rows
rows_named [] h = tt
rows_named (row ∷ rows) h = (h row here, rows_named rows (λ later m. h later (there m)))

read_named : (text cells : List ℕ) → read_cells text ≡ done cells → AllNamed (rows_in query_section cells)
unfolding shape_at shapes_of
read_named text cells e = rows_named (rows_in query_section cells) (λ row m. named (has_kinds (form_in cells)) row (items_formed query_section (omega arith) text cells e row m))

-- one row of section k written: what it leaves of the query rows, and for a query its line
record OneWritten (form k : ℕ) (rest : List ℕ) (p : Piece) : Type 0 where
  cells : rows_among query_section rest ≡ joined_if (eqb k query_section) (p.row ∷ []) (rows_among query_section p.rest)
  text : k ≡ query_section → p.made ≡ row_line (has_kinds form) p.row

one_written : (form k : ℕ) (letters rest : List ℕ) (p : Piece) → (writing form).more k rest ≡ true → (writing form).row k letters rest ≡ done p → OneWritten form k rest p
unfolding writing formed shape_at shapes_of
one_written form k letters rest p m e =
    let r = row_written_lem form k letters rest p m e in
    rw r.piece (record {
      cells = ap (rows_among query_section) r.stands ∙ among_row query_section k _ _ (row_of_five rest) ∙ kept (eqb k query_section) _ _;
      text = λ z. query_text_lem z r.proper;
    })
  where
    query_text_lem : k ≡ query_section → formed (shape_at form k).row (row_of rest) ≡ true → line_text letters (shape_at form k).row (row_of rest) ≡ row_line (has_kinds form) (row_of rest)
    query_text_lem z f = rw z (line_is (has_kinds form) letters (row_of rest) (and_left _ _ (rw z at f)))

    kept : (t : Bool) (row : Row) (rows : List Row) → kept_if t row rows ≡ joined_if t (row ∷ []) rows
    kept t row rows = ap (kept_if t row) (joined_none t rows) ∙ kept_joined t row [] rows

-- from stage g the writing has come to stage h by rows of section k
record RowsWritten (form k : ℕ) (g h : Stage) : Type 0 where
  rows : List Row
  cells : rows_among query_section g.rest ≡ joined_if (eqb k query_section) rows (rows_among query_section h.rest)
  count : h.sofar.rows ≡ g.sofar.rows + length rows
  text : k ≡ query_section → h.made ≡ g.made ++ row_lines (has_kinds form) rows

joined_more : (t : Bool) (row : Row) (rows more : List Row) → joined_if t (row ∷ []) (joined_if t rows more) ≡ joined_if t (row ∷ rows) more
unfolding joined_if
joined_more true row rows more = refl
joined_more false row rows more = refl

none_written : (form k : ℕ) (g h : Stage) → g ≡ h → RowsWritten form k g h
unfolding row_lines
none_written form k g h e = record {
  rows = [];
  cells = ap (λ (s : Stage). rows_among query_section s.rest) e ∙ joined_none (eqb k query_section) _;
  count = let z : g.sofar.rows ≡ h.sofar.rows = ap (λ (s : Stage). s.sofar.rows) e in omega (arith, z);
  text = λ z. ap (λ (s : Stage). s.made) (sym e) ∙ sym (append-nil g.made);
}

more_written : (form k : ℕ) (g h : Stage) (p : Piece) → OneWritten form k g.rest p → RowsWritten form k (after_row k g p) h → RowsWritten form k g h
unfolding row_lines after_row taken
more_written form k g h p o r = record {
  rows = p.row ∷ r.rows;
  cells = o.cells ∙ ap (joined_if (eqb k query_section) (p.row ∷ [])) r.cells ∙ joined_more (eqb k query_section) p.row r.rows _;
  count = omega (arith, r.count);
  text = λ z. r.text z ∙ append_assoc g.made p.made (row_lines (has_kinds form) r.rows) ∙ ap (λ (s : List ℕ). g.made ++ (s ++ row_lines (has_kinds form) r.rows)) (o.text z);
}

rows_written : (form turns k : ℕ) (g h : Stage) → through_rows (writing form) turns k g ≡ done h → RowsWritten form k g h
unfolding through_rows
rows_written form zero k g h e = absurd (let z : ◌≡◌ {A = ℕ} 0 1 = cc in omega arith)
rows_written form (suc turns) k g h e =
    ⊎_elim
    (λ c.
    let m = and_then_done (one_row (writing form) k g) (through_rows (writing form) turns k) c.1 in
    let r = row_split (writing form) k g m.0 m.1 in
    more_written form k g h r.0 (one_written form k g.sofar.letters g.rest r.0 c.0 r.1)
    (rows_written form turns k (after_row k g r.0) h (ap (through_rows (writing form) turns k) r.3 ∙ m.2)))
    (λ c. none_written form k g h (done_is c.1))
    (either_done ((writing form).more k g.rest) _ _ e)

-- the names line and the rows of section k, from stage g to stage m
record SectionWritten (form k : ℕ) (g m : Stage) : Type 0 where
  rows : List Row
  cells : rows_among query_section g.rest ≡ joined_if (eqb k query_section) rows (rows_among query_section m.rest)
  count : m.sofar.rows ≡ length rows
  text : k ≡ query_section → m.made ≡ g.made ++ ((shape_at form k).names ++ row_lines (has_kinds form) rows)

section_written : (form k : ℕ) (g m : Stage) → through_section (writing form) k g ≡ done m → SectionWritten form k g m
unfolding writing write_names after_names begun
section_written form k g m e =
    let s = section_split (writing form) k g m e in
    let p : record { row = blank; made = (shape_at form k).names; rest = g.rest } ≡ s.0 = done_is s.1 in
    let r = rows_written form (suc (section_at k).most) k (after_names g s.0) m s.2 in
    record {
      rows = r.rows;
      cells = ap (λ (x : Piece). rows_among query_section x.rest) p ∙ r.cells;
      count = omega (arith, r.count);
      text = λ z. r.text z ∙ ap (λ (x : Piece). (g.made ++ x.made) ++ row_lines (has_kinds form) r.rows) (sym p) ∙ append_assoc g.made (shape_at form k).names (row_lines (has_kinds form) r.rows);
    }

-- from stage g on the query rows are these, and the text written ends with their section
pub record QueriesWritten (form : ℕ) (g h : Stage) : Type 0 where
  pub above : List ℕ
  pub rows : List Row
  pub cells : rows_among query_section g.rest ≡ rows
  pub text : h.made ≡ above ++ ((shape_at form query_section).names ++ row_lines (has_kinds form) rows)
  pub count : h.sofar.rows ≡ length rows

queries_written : (form left k : ℕ) (g h : Stage) → k + left ≡ query_section → through_sections (writing form) (suc left) k g ≡ done h → QueriesWritten form g h
unfolding through_sections joined_if rows_among
queries_written form zero k g h l e =
    let c = and_then_done (through_section (writing form) k g) (through_sections (writing form) 0 (suc k)) e in
    let f = refuse_if_done _ _ _ c.2 in
    let same : c.0 ≡ h = done_is f.1 in
    let z : k ≡ query_section = omega (arith, l) in
    let s = section_written form k g c.0 c.1 in
    record {
      above = g.made;
      rows = s.rows;
      cells = s.cells ∙ ap (λ (r : List ℕ). joined_if (eqb k query_section) s.rows (rows_among query_section r)) (empty_nil c.0.rest f.0) ∙ rw (eq-eqb k query_section z) (append-nil s.rows);
      text = ap (λ (x : Stage). x.made) (sym same) ∙ s.text z ∙ ap (λ (j : ℕ). g.made ++ ((shape_at form j).names ++ row_lines (has_kinds form) s.rows)) z;
      count = ap (λ (x : Stage). x.sofar.rows) (sym same) ∙ s.count;
    }
queries_written form (suc left) k g h l e =
    let c = and_then_done (through_section (writing form) k g) (through_sections (writing form) (suc left) (suc k)) e in
    let s = section_written form k g c.0 c.1 in
    let r = queries_written form left (suc k) c.0 h (omega (arith, l)) c.2 in
    record {
      above = r.above;
      rows = r.rows;
      cells = s.cells ∙ rw (ne_eqb k query_section (λ z. omega (arith, l))) r.cells;
      text = r.text;
      count = r.count;
    }

-- A text that is read as cells: the stage that reading ends at, and the queries' lines at the
-- text's end.
pub record QueriesRead (text cells : List ℕ) : Type 0 where
  pub stage : Stage
  pub came : read_stage text ≡ done stage
  pub above : List ℕ
  pub whole : text ≡ above ++ ((shape_at (form_in cells) query_section).names ++ row_lines (has_kinds (form_in cells)) (rows_in query_section cells))
  pub count : stage.sofar.rows ≡ length (rows_in query_section cells)
  pub named : AllNamed (rows_in query_section cells)

pub queries_read : (text cells : List ℕ) → read_cells text ≡ done cells → QueriesRead text cells
unfolding read_cells read_stage made_of rows_in at_start
queries_read text cells e =
    let c = and_then_done (read_stage text) (λ g. done g.made) e in
    ⊎_elim (λ x. absurd (let z : ◌≡◌ {A = ℕ} 0 1 = cc in omega arith))
    (λ x.
    let form = form_of text in
    let b = whole_back (reading form) (writing form) (reading_mirrored form) (form ∷ []) text c.0 x.1 in
    let w = whole_split (writing form) [] b.made (record { sofar = c.0.sofar; made = text; rest = [] }) (b.back []) in
    let q = queries_written form 8 0 (at_start [] b.made) (record { sofar = c.0.sofar; made = text; rest = [] }) refl w.0 in
    let rows : q.rows ≡ rows_among query_section (drop 1 cells) = sym q.cells ∙ ap (λ (l : List ℕ). rows_among query_section (drop 1 l)) (sym b.grown ∙ done_is c.2) in
    let lines : ℕ → List Row → List ℕ = λ f l. q.above ++ ((shape_at f query_section).names ++ row_lines (has_kinds f) l) in
    record {
      stage = c.0;
      came = c.1;
      above = q.above;
      whole = q.text ∙ ap (lines form) rows ∙ ap (λ (f : ℕ). lines f (rows_among query_section (drop 1 cells))) (sym (form_read text cells e));
      count = q.count ∙ ap length rows;
      named = read_named text cells e;
    })
    (either_done (ltb 32768 (length text)) _ _ c.1)
