-- The scope graph that a graph table stands for (document 01, "The gym file"): its rules, edges,
-- declarations, open pairs and queries, each from the rows of its section. Assumes nothing: these
-- are definitions.
use Rattle.std.specs.Prelude.{ℕ, zero, suc, ◌+◌, ◌*◌, List, [], ◌∷◌, map, Bool, true, false, eqb, length, get_or, drop}
use Rattle.std.proofs.Math.Option.{some}
use Rattle.scope_graph.specs.Rows.{OrderPair, Transition, PackedName, Rules, language}
use Rattle.scope_graph.specs.Order.{end_of}
use Rattle.scope_graph.specs.Graph.{Edge, Declaration, Graph, Query, OpenPair}
use Rattle.graph_rows.specs.Format.{label_section, pair_section, transition_section, accept_section, count_section, edge_section, declaration_section, open_section, query_section}
use Rattle.graph_rows.specs.Admission.{Row, value, blank}

-- a row stands before the others, where the test holds
unfoldable pub kept_if : Bool → Row → List Row → List Row
kept_if true row rows = row ∷ rows
kept_if false row rows = rows

-- Of rows of six cells, the ones whose first cell is k, in sequence: each by its five values. Cells
-- too few for a row are none.
unfoldable pub rows_among : ℕ → List ℕ → List Row
rows_among k [] = []
rows_among k (s ∷ []) = []
rows_among k (s ∷ a ∷ []) = []
rows_among k (s ∷ a ∷ b ∷ []) = []
rows_among k (s ∷ a ∷ b ∷ c ∷ []) = []
rows_among k (s ∷ a ∷ b ∷ c ∷ d ∷ []) = []
rows_among k (s ∷ a ∷ b ∷ c ∷ d ∷ e ∷ cells) = kept_if (eqb s k) (a ∷ b ∷ c ∷ d ∷ e ∷ []) (rows_among k cells)

-- the rows of section k of a graph table: its first cell is the form
unfoldable pub rows_in : ℕ → List ℕ → List Row
rows_in k cells = rows_among k (drop 1 cells)

-- `label`: the letters, in label number sequence
unfoldable pub letters_of : List ℕ → List ℕ
letters_of cells = map (λ (row : Row). value row 0) (rows_in label_section cells)

-- `less more`
unfoldable pub order_pair_of : Row → OrderPair
order_pair_of row = record { less = end_of (value row 0); more = end_of (value row 1) }

-- `state label next`
unfoldable pub transition_of : Row → Transition
transition_of row = record { state = value row 0; label = value row 1; next = value row 2 }

-- the first four sections: labels, order, automaton
unfoldable pub rules_of : List ℕ → Rules
rules_of cells = record {
  labels = length (letters_of cells);
  order = map order_pair_of (rows_in pair_section cells);
  transitions = map transition_of (rows_in transition_section cells);
  accept = map (λ (row : Row). value row 0) (rows_in accept_section cells);
}

-- a kind and a name's two cells: the name of the rules (02, K8)
unfoldable pub name_at : ℕ → Row → PackedName
name_at c row = record { kind = value row c; high = value row (c + 1); low = value row (c + 2) }

module _ (r : Rules) where
  -- `from label turn to`, or `from label to`, where the turn is 0 (02, K12)
  unfoldable pub edge_of : Row → Edge (language r)
  edge_of row = record { from = value row 0; step = record { label = value row 1; turn = some (value row 3) }; to = value row 2 }

  -- `at kind name mark`
  unfoldable pub declaration_of : Row → Declaration (language r)
  declaration_of row = record { at = value row 0; name = name_at 1 row; mark = value row 4 }

  -- `at open`
  unfoldable pub open_pair_of : Row → OpenPair (language r)
  open_pair_of row = record { at = value row 0; end = end_of (value row 1) }

  -- `start kind seek`
  unfoldable pub query_of : Row → Query (language r)
  query_of row = record { start = value row 0; name = name_at 1 row }

-- `scopes`: the count of scopes, by its one row
unfoldable pub scopes_of : List ℕ → ℕ
scopes_of cells = value (get_or (rows_in count_section cells) 0 blank) 0

-- The graph of a table's rows, read with given rules, which may be those of another table: two
-- tables with the same rules are then two graphs of one language.
module _ (r : Rules) (cells : List ℕ) where
  abbrev pub graph_in : Graph (language r)
  graph_in = record {
    scopes = scopes_of cells;
    edges = map (edge_of r) (rows_in edge_section cells);
    declarations = map (declaration_of r) (rows_in declaration_section cells);
  }

  abbrev pub opens_in : List (OpenPair (language r))
  opens_in = map (open_pair_of r) (rows_in open_section cells)

  abbrev pub queries_in : List (Query (language r))
  queries_in = map (query_of r) (rows_in query_section cells)

-- the graph, the open pairs and the queries of a table, with its own rules
unfoldable pub graph_of : (cells : List ℕ) → Graph (language (rules_of cells))
graph_of cells = graph_in (rules_of cells) cells

unfoldable pub opens_of : (cells : List ℕ) → List (OpenPair (language (rules_of cells)))
opens_of cells = opens_in (rules_of cells) cells

unfoldable pub queries_of : (cells : List ℕ) → List (Query (language (rules_of cells)))
queries_of cells = queries_in (rules_of cells) cells

-- where section k's rows begin in an accepted table: after the form and the rows of the sections
-- above
unfoldable pub section_place : ℕ → List ℕ → ℕ
section_place zero cells = 1
section_place (suc k) cells = section_place k cells + 6 * length (rows_in k cells)
