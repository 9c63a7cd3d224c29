-- Two tables with the same rules, as two graphs of one language (02, K10: a log adds rows; K13:
-- scopes get other numbers; the first four sections stay). A table's language is that of its own
-- rules, so the second graph is read with the first one's. Assumes nothing: these are definitions.
use Rattle.std.specs.Prelude.{ℕ, ◌<◌, ◌≡◌, List}
use Rattle.scope_graph.specs.Rows.{Rules, language}
use Rattle.scope_graph.specs.Graph.{Query}
use Rattle.scope_graph.specs.Listing.{Accepted}
use Rattle.graph_rows.specs.Decode.{rules_of, scopes_of, graph_in, opens_in, queries_in, graph_of, opens_of, queries_of}
use Rattle.graph_rows.specs.Accepted.{AcceptedTable}

-- with its own rules a table is read as what it stands for
pub record OwnRules (cells : List ℕ) : Type 0 where
  pub graph : graph_of cells ≡ graph_in (rules_of cells) cells
  pub opens : opens_of cells ≡ opens_in (rules_of cells) cells
  pub queries : queries_of cells ≡ queries_in (rules_of cells) cells

-- an accepted table is an accepted graph in the language of any rules that are equal to its own
abbrev pub AcceptedIn : Type 0
AcceptedIn = (cells : List ℕ) → AcceptedTable cells → (r : Rules) → rules_of cells ≡ r → (q : Query (language r)) → q.start < scopes_of cells
    → Accepted (language r) (graph_in r cells) (opens_in r cells) q
