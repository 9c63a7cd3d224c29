-- The list of document 01's example, computed by the checker from its text. Assumes nothing.
use mathlib.Core.Path.{◌≡◌, refl, sym, ap, ◌∙◌}
use mathlib.Core.List.{[], ◌∷◌, flat_map}
use Rattle.scope_graph.specs.Rows.{any_of}
use Rattle.scope_graph.specs.Computed.{keep, first_of, hops_at}
use Rattle.scope_graph.specs.Readers.{numbers_below}
use Rattle.text_field.proofs.OutcomeLaws.{done_same}
use Rattle.graph_rows.specs.Decode.{kept_if, rows_among, rows_in, edge_of, query_of, scopes_of, graph_of, queries_of}
use Rattle.board.proofs.Example.{example_cells, example_read}
use Rattle.was.specs.Order.{met_from, next_met, met, met_all, unmet, breadth_first, start_in, was_list}
use Rattle.was.specs.Promises.{ExampleListed}

at_once : was_list example_cells ≡ 2 ∷ 4 ∷ 1 ∷ 0 ∷ 3 ∷ []
unfolding flat_map any_of keep first_of hops_at numbers_below kept_if rows_among rows_in edge_of query_of scopes_of graph_of queries_of met_from next_met met met_all unmet breadth_first start_in was_list
at_once = refl

pub example_listed : ExampleListed
example_listed cells e = ap was_list (done_same cells example_cells (sym e ∙ example_read)) ∙ at_once
