-- The queries of a graph table (01, "The gym file", the rows `start seek`; with kinds 02's, K8, the
-- rows `start kind seek`). Assumes nothing: these are definitions.
use Rattle.std.specs.Prelude.{ℕ, ◌<◌, List, get_or}
use Rattle.scope_graph.specs.Graph.{Query}
use Rattle.scope_graph.specs.Rows.{PackedName, language}
use Rattle.graph_rows.specs.Decode.{rules_of, queries_of, scopes_of}
use Rattle.graph_file.specs.File.{WasRead}
use Rattle.graph_table.specs.declared.rows.QueryRow.{QueryRow}
use Rattle.graph_table.specs.Values.{packed}

-- query i, where there is one
unfoldable pub query_at : (cells : List ℕ) → ℕ → Query (language (rules_of cells))
query_at cells i = get_or (queries_of cells) i (record { start = 0; name = record { kind = 0; high = 0; low = 0 } })

-- a query by its start and its name, and the query of a row as the code holds it
abbrev pub query_from : (cells : List ℕ) → ℕ → PackedName → Query (language (rules_of cells))
query_from cells start x = record { start = start; name = x }

abbrev pub query_on : (cells : List ℕ) → QueryRow → Query (language (rules_of cells))
query_on cells q = query_from cells q.start (packed q.name)

-- what is asked of a query: the table was read, the query's start is a scope of it, and its kind is
-- a byte
pub record Asked (cells : List ℕ) (q : Query (language (rules_of cells))) : Type 0 where
  pub read : WasRead cells
  pub starts : q.start < scopes_of cells
  pub kind : q.name.kind < 256
