-- The scope graph of document 01's example, and of a file with kinds, computed from their tables by
-- the definitions. Assumes nothing.
use mathlib.Core.Path.{◌≡◌, refl}
use mathlib.Core.Option.{some}
use mathlib.Core.List.{[], ◌∷◌}
use Rattle.scope_graph.specs.Language.{stop, by}
use Rattle.scope_graph.specs.Rows.{PackedName}
use Rattle.scope_graph.specs.Order.{end_of}
use Rattle.graph_rows.specs.Decode.{kept_if, rows_among, rows_in, letters_of, order_pair_of, transition_of, rules_of, name_at, edge_of, declaration_of, open_pair_of, query_of, scopes_of, graph_of, opens_of, queries_of}
use Rattle.graph_rows.specs.Accepted.{AcceptedTable}
use Rattle.graph_file.proofs.Examples.{example_text, example_cells, example_read, kinds_text, kinds_cells, kinds_read}
use Rattle.graph_file.proofs.Promises.{read_accepted}

-- `hours` and `service`, of the kind `v`
hours : PackedName
hours = record { kind = 118; high = 7525362636775489536; low = 0 }

service : PackedName
service = record { kind = 118; high = 8315178139909317888; low = 0 }

-- I is label 0, P is label 1
example_rules : rules_of example_cells
    ≡ record {
      labels = 2;
      order = record { less = stop; more = by 0 } ∷ record { less = stop; more = by 1 } ∷ record { less = by 0; more = by 1 } ∷ [];
      transitions = record { state = 0; label = 0; next = 1 } ∷ record { state = 0; label = 1; next = 0 } ∷ record { state = 1; label = 0; next = 1 } ∷ [];
      accept = 0 ∷ 1 ∷ [];
    }
unfolding end_of kept_if rows_among rows_in letters_of order_pair_of transition_of rules_of
example_rules = refl

example_graph : graph_of example_cells
    ≡ record {
      scopes = 5;
      edges = record { from = 1; step = record { label = 1; turn = some 0 }; to = 0 } ∷ record { from = 2; step = record { label = 0; turn = some 0 }; to = 4 } ∷ record { from = 2; step = record { label = 1; turn = some 0 }; to = 1 } ∷ record { from = 3; step = record { label = 1; turn = some 0 }; to = 1 } ∷ [];
      declarations = record { at = 0; name = hours; mark = 5 } ∷ record { at = 1; name = service; mark = 10 } ∷ record { at = 2; name = service; mark = 21 } ∷ record { at = 4; name = hours; mark = 40 } ∷ [];
    }
unfolding hours service kept_if rows_among rows_in name_at edge_of declaration_of scopes_of graph_of
example_graph = refl

example_opens : opens_of example_cells ≡ record { at = 3; end = stop } ∷ []
unfolding end_of kept_if rows_among rows_in open_pair_of opens_of
example_opens = refl

example_queries : queries_of example_cells ≡ record { start = 2; name = service } ∷ record { start = 3; name = service } ∷ record { start = 2; name = hours } ∷ []
unfolding hours service kept_if rows_among rows_in name_at query_of queries_of
example_queries = refl

example_accepted : AcceptedTable example_cells
example_accepted = read_accepted example_text example_cells example_read

-- with kinds (02, K8)
c_hours : PackedName
c_hours = record { kind = 99; high = 7525362636775489536; low = 0 }

kinds_graph : graph_of kinds_cells ≡ record { scopes = 1; edges = []; declarations = record { at = 0; name = c_hours; mark = 1 } ∷ record { at = 0; name = hours; mark = 2 } ∷ [] }
unfolding hours c_hours kept_if rows_among rows_in name_at edge_of declaration_of scopes_of graph_of
kinds_graph = refl

kinds_queries : queries_of kinds_cells ≡ record { start = 0; name = hours } ∷ record { start = 0; name = c_hours } ∷ []
unfolding hours c_hours kept_if rows_among rows_in name_at query_of queries_of
kinds_queries = refl

kinds_accepted : AcceptedTable kinds_cells
kinds_accepted = read_accepted kinds_text kinds_cells kinds_read
