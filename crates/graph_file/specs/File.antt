-- The whole file: text read into the graph table's cells, and cells written as text (document 01,
-- "The gym file" and "Who can cause a refusal"). Both are ways through the sections
-- (graph_rows/specs/Way). Assumes nothing: these are definitions.
use Rattle.std.specs.Prelude.{ℕ, List, [], ◌∷◌, map, Bool, true, false, not, ltb, length, drop, ◌≡◌}
use Rattle.text_field.specs.Bytes.{is_lower}
use Rattle.graph_rows.specs.Format.{byte, shape_at, old_form, kind_form, turn_form, has_turns, label_section, edge_section, declaration_section, text_bytes}
use Rattle.text_field.specs.Outcome.{Outcome, refused, done, and_then}
use Rattle.graph_rows.specs.Admission.{blank}
use Rattle.graph_file.specs.Line.{read_items, line_text}
use Rattle.graph_rows.specs.Tested.{test_row, form_in, has_form}
use Rattle.graph_rows.specs.Way.{starts_with, Piece, Stage, Way, at_start, through_some, whole}

-- Reading. The names line must stand there byte for byte.
unfoldable pub read_names : ℕ → ℕ → List ℕ → Outcome Piece
read_names form k text =
    and_then (read_items [] (map byte (shape_at form k).names) blank text)
    (λ r. done (record { row = blank; made = []; rest = r.rest }))

-- A row follows unless the text is at its end or a lower-case letter comes, which begins a names
-- line.
unfoldable pub row_follows : List ℕ → Bool
row_follows [] = false
row_follows (x ∷ rest) = not (is_lower x)

-- a row's line becomes its section's number and the five values
unfoldable pub read_row : ℕ → ℕ → List ℕ → List ℕ → Outcome Piece
read_row form k letters text =
    and_then (read_items letters (shape_at form k).row blank text)
    (λ r. done (record { row = r.values; made = k ∷ r.values; rest = r.rest }))

unfoldable pub reading : ℕ → Way
reading form = record { form = form; names = read_names form; more = λ k text. row_follows text; row = read_row form }

-- The form of a text shows at two names lines, by their places, behind the sections above them: a
-- form is shown where its line is read. In all other cases it is the old form, also where the
-- sections above are refused or no names line comes: then the text is refused there in any form.
unfoldable pub form_shown : ℕ → Outcome Piece → ℕ
form_shown form (refused n) = old_form
form_shown form (done p) = form

unfoldable pub form_after : ℕ → ℕ → Outcome Stage → ℕ
form_after form k (refused n) = old_form
form_after form k (done g) = form_shown form (read_names form k g.rest)

-- Turns show where the names line of edges is due (02, K12): the sections above are the same in all
-- forms.
unfoldable pub turns_in : List ℕ → ℕ
turns_in text = form_after turn_form edge_section (through_some (reading old_form) edge_section label_section (at_start [] text))

-- Without turns the kinds show where the names line of declarations is due (02, K8): the sections
-- above are the same in the two forms that are left.
unfoldable pub kinds_in : List ℕ → ℕ
kinds_in text = form_after kind_form declaration_section (through_some (reading old_form) declaration_section label_section (at_start [] text))

-- Turns stand only in a file with kinds: behind their line the one without kinds is 2 (02, K12).
unfoldable pub form_with : ℕ → ℕ → ℕ
form_with turns kinds = elim (has_turns turns) [ true ↦ turn_form | false ↦ kinds ]

unfoldable pub form_of : List ℕ → ℕ
form_of text = form_with (turns_in text) (kinds_in text)

-- The graph table's cells that a text stands for: refused by 1 where it is too long, then line by
-- line in its form, then by 6.
unfoldable pub read_stage : List ℕ → Outcome Stage
read_stage text = elim (ltb text_bytes (length text)) [ true ↦ refused 1 | false ↦ whole (reading (form_of text)) (form_of text ∷ []) text ]

unfoldable pub made_of : Outcome Stage → Outcome (List ℕ)
made_of o = and_then o (λ g. done g.made)

unfoldable pub read_cells : List ℕ → Outcome (List ℕ)
read_cells text = made_of (read_stage text)

-- Writing. The names line is written whether or not rows follow.
unfoldable pub write_names : ℕ → ℕ → List ℕ → Outcome Piece
write_names form k cells = done (record { row = blank; made = (shape_at form k).names; rest = cells })

-- A row is tested as in a table (graph_rows/specs/Tested), and becomes its line.
unfoldable pub write_row : ℕ → ℕ → List ℕ → List ℕ → Outcome Piece
write_row form k letters cells =
    and_then (test_row form k letters cells)
    (λ p. done (record { row = p.row; made = line_text letters (shape_at form k).row p.row; rest = p.rest }))

unfoldable pub writing : ℕ → Way
writing form = record { form = form; names = write_names form; more = starts_with; row = write_row form }

-- The text of a graph table's cells, in the table's form: refused by 2 where the first cell is
-- missing or no form's number, then row by row, then by 6.
unfoldable pub write_text : List ℕ → Outcome (List ℕ)
write_text cells =
    elim (has_form cells) [ true ↦ made_of (whole (writing (form_in cells)) [] (drop 1 cells)) | false ↦ refused 2 ]

-- some text is read as these cells, so that it was not refused by 1 to 6 (01, "Who can cause a
-- refusal")
abbrev pub WasRead : List ℕ → Type 0
WasRead cells = (text : List ℕ) × (read_cells text ≡ done cells)
