-- What holds of a file's form (document 02, K8 and K12): it is told by the text, kept by reading
-- and writing, and does not change what stands above the names lines that show it. These are the
-- statements; their proofs are in proofs/. Assumes nothing: these are definitions.
use Rattle.std.specs.Prelude.{ℕ, ◌≡◌, List, [], false}
use Rattle.text_field.specs.Outcome.{done}
use Rattle.graph_rows.specs.Format.{old_form, has_turns, label_section, edge_section, declaration_section}
use Rattle.graph_rows.specs.Way.{through_some, at_start}
use Rattle.graph_file.specs.File.{reading, form_of, read_cells, write_text}
use Rattle.graph_rows.specs.Tested.{form_in}

-- what stands above the names line of edges is read the same way, whatever the form
abbrev pub ReadAlike : Type 0
ReadAlike = (form : ℕ) (text : List ℕ)
    → through_some (reading form) edge_section label_section (at_start [] text)
    ≡ through_some (reading old_form) edge_section label_section (at_start [] text)

-- and what stands above the names line of declarations in every form without turns
abbrev pub EdgesAlike : Type 0
EdgesAlike = (form : ℕ) (text : List ℕ) → has_turns form ≡ false
    → through_some (reading form) declaration_section label_section (at_start [] text)
    ≡ through_some (reading old_form) declaration_section label_section (at_start [] text)

-- a graph has the form of the text that it was read from
abbrev pub FormRead : Type 0
FormRead = (text cells : List ℕ) → read_cells text ≡ done cells → form_in cells ≡ form_of text

-- a text has the form of the graph that it was written of
abbrev pub FormWritten : Type 0
FormWritten = (cells text : List ℕ) → write_text cells ≡ done text → form_of text ≡ form_in cells
