-- A drawing put into a gym file in place of its edges (02, K14). Assumes nothing: these are
-- definitions.
use Rattle.std.specs.Prelude.{ℕ, not, List, []}
use Rattle.text_field.specs.Outcome.{Outcome, and_then, refuse_if}
use Rattle.graph_rows.specs.Format.{edge_section}
use Rattle.graph_rows.specs.Admission.{Row}
use Rattle.graph_rows.specs.Decode.{letters_of, scopes_of}
use Rattle.graph_rows.specs.Formed.{cells_of}
use Rattle.graph_file.specs.File.{read_cells, write_text}
use Rattle.graph_change.specs.Changed.{with_rows}
use Rattle.dot_text.specs.Grammar.{Drawing}
use Rattle.dot_text.specs.Reading.{drawn}
use Rattle.undot.specs.Scopes.{file_scopes}
use Rattle.undot.specs.Edges.{rows_with}

-- the table with these edge rows in place of its own
unfoldable pub with_edges : List ℕ → List Row → List ℕ
with_edges cells rows = with_rows edge_section (cells_of edge_section rows) cells

-- The rows of what is drawn, in the file of a table: 19 unless its scopes are the file's, each
-- once; then the edges by 5, 3 and 4.
unfoldable pub drawn_rows : List ℕ → Drawing → Outcome (List Row)
drawn_rows cells d =
    refuse_if (not (file_scopes (scopes_of cells) d.scopes)) 19
    (rows_with (letters_of cells) (scopes_of cells) [] d.edges)

-- the text of the table with them
unfoldable pub undrawn_text : List ℕ → Drawing → Outcome (List ℕ)
undrawn_text cells d = and_then (drawn_rows cells d) (λ rows. write_text (with_edges cells rows))

-- a drawing's text is refused by 18 as a whole before anything in it is looked at
unfoldable pub undrawn_by : List ℕ → List ℕ → Outcome (List ℕ)
undrawn_by dot cells = and_then (drawn dot) (undrawn_text cells)

-- for a gym file's text: its refusals 1 to 6 first
unfoldable pub undot_of : List ℕ → List ℕ → Outcome (List ℕ)
undot_of text dot = and_then (read_cells text) (undrawn_by dot)
