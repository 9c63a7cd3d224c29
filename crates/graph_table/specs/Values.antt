-- A row of a graph table by its values, for the row that stands at a place: the first cell is the
-- section's number (document 01, "The gym file"; the kind is 02's, K8, an edge's turn 02's, K12).
-- Assumes nothing: these are definitions.
use Rattle.std.specs.Prelude.{ℕ, zero, suc, ◌+◌, Bool, ◌&&◌, List, eqb, get_or}
use Rattle.scope_graph.specs.Rows.{PackedName, same_name}
use Rattle.std.specs.declared.option.Option.TheVariants.{None}
use Rattle.scope_graph.specs.declared.End.{End}
use Rattle.scope_graph.specs.declared.End.TheVariants.{Stop, Label}
use Rattle.scope_graph.specs.declared.Pair.{Pair}
use Rattle.graph_rows.specs.Admission.{Row, value}
use Rattle.graph_table.specs.declared.names.Name.{Name}
use Rattle.graph_table.specs.declared.rows.TransitionRow.{TransitionRow}
use Rattle.graph_table.specs.declared.rows.EdgeRow.{EdgeRow}
use Rattle.graph_table.specs.declared.rows.DeclarationRow.{DeclarationRow}
use Rattle.graph_table.specs.declared.rows.OpenRow.{OpenRow}
use Rattle.graph_table.specs.declared.rows.QueryRow.{QueryRow}

-- the rules' name
abbrev pub packed : Name → PackedName
packed x = record { kind = x.kind; high = x.high; low = x.low }

-- an end of an order row, by its cell: 0 is `$`, n + 1 is the label n. It has no turn: order pairs
-- compare labels (02, K12). That it is the rules' end is `RowEndIs` of Promises.
unfoldable pub row_end : ℕ → End
row_end zero = Stop
row_end (suc n) = Label n None

module _ (rows : List ℕ) (p : ℕ) where
  abbrev pub pair_row : Pair
  pair_row = record { less = row_end (get_or rows (p + 1) 0); more = row_end (get_or rows (p + 2) 0) }

  abbrev pub transition_row : TransitionRow
  transition_row = record { state = get_or rows (p + 1) 0; label = get_or rows (p + 2) 0; next = get_or rows (p + 3) 0 }

  abbrev pub edge_row : EdgeRow
  edge_row = record { from = get_or rows (p + 1) 0; label = get_or rows (p + 2) 0; to = get_or rows (p + 3) 0; turn = get_or rows (p + 4) 0 }

  -- the name of a declaration or a query
  abbrev name_here : Name
  name_here = record { kind = get_or rows (p + 2) 0; high = get_or rows (p + 3) 0; low = get_or rows (p + 4) 0 }

  abbrev pub declaration_row : DeclarationRow
  declaration_row = record { at = get_or rows (p + 1) 0; name = name_here; mark = get_or rows (p + 5) 0 }

  abbrev pub open_row : OpenRow
  open_row = record { at = get_or rows (p + 1) 0; end = get_or rows (p + 2) 0 }

  abbrev pub query_row : QueryRow
  query_row = record { start = get_or rows (p + 1) 0; name = name_here }

-- a declaration's row by its five values
abbrev pub row_declared : Row → DeclarationRow
row_declared row = record {
  at = value row 0;
  name = record { kind = value row 1; high = value row 2; low = value row 3 };
  mark = value row 4;
}

-- does a row declare the name at the scope? (01, "Paths": the last scope of a reached path declares
-- the name)
unfoldable pub declares : PackedName → ℕ → DeclarationRow → Bool
declares x s d = eqb d.at s && same_name (packed d.name) x
