-- How the code finds what it draws in the cells of a table's sections. Assumes nothing: these are
-- definitions.
use Rattle.std.specs.Prelude.{ℕ, ◌+◌, ◌*◌, ◌%◌, get_or}
use mathlib.Core.List.{List, map, flat_map}
use Rattle.graph_rows.specs.Admission.{Row, value}
use Rattle.graph_table.specs.Sections.{rows_of}
use Rattle.graph_table.specs.declared.rows.EdgeRow.{EdgeRow}
use Rattle.dot_text.specs.Grammar.{DrawnEdge}
use Rattle.dot.specs.Drawing.{edge_line}

-- the byte of a label's letter, in the cells of the `label` rows: no file has more than eight
unfoldable pub letter_byte : List ℕ → ℕ → ℕ
letter_byte labels label = get_or labels (6 * (label % 8) + 1) 0 % 256

-- an edge as it is drawn with the letter of its label
abbrev pub drawn : EdgeRow → ℕ → DrawnEdge
drawn edge letter = record { from = edge.from; letter = letter; to = edge.to }

-- an edge row, with the letter found by the label
unfoldable pub drawn_by : List ℕ → Row → DrawnEdge
drawn_by labels row = record { from = value row 0; letter = letter_byte labels (value row 1); to = value row 2 }

-- the lines of the edges in the cells of their rows
unfoldable pub edge_lines : List ℕ → List ℕ → List ℕ
edge_lines labels cells = flat_map edge_line (map (drawn_by labels) (rows_of cells))
