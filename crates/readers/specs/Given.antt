-- A declaration as the code holds it, and what is known of it. Assumes nothing: these are
-- definitions.
use Rattle.std.specs.Prelude.{ℕ, List}
use Rattle.scope_graph.specs.Language.{◌∈◌}
use Rattle.scope_graph.specs.Graph.{Declaration}
use Rattle.scope_graph.specs.Rows.{language}
use Rattle.graph_rows.specs.Decode.{rules_of, graph_of}
use Rattle.graph_file.specs.File.{WasRead}
use Rattle.graph_table.specs.declared.rows.DeclarationRow.{DeclarationRow}
use Rattle.graph_table.specs.Values.{packed}
use Rattle.board.specs.Made.{Made}

abbrev pub declaration_on : (cells : List ℕ) → DeclarationRow → Declaration (language (rules_of cells))
declaration_on cells d = record { at = d.at; name = packed d.name; mark = d.mark }

-- the declaration is one of a table that was read, of which the block is the board
pub record Stands (cells block : List ℕ) (d : DeclarationRow) : Type 0 where
  pub read : WasRead cells
  pub made : Made cells block
  pub stands : declaration_on cells d ∈ (graph_of cells).declarations
