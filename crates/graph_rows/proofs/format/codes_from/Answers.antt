use Rattle.graph_rows.specs.Format.{labels, pairs, transitions, accepts, scope_count, edges, declarations, open_pairs, queries, past_last, sections, has_kinds, has_turns, edge_shape, declaration_shape, query_shape, shapes_of}
use Rattle.graph_rows.specs.Table.{content_number, code, shape_bytes, has_range, kept_ranged, ranged, range_bytes, layout, layouts, format_bytes}
use Rattle.graph_rows.proofs.FormatLaws.{from_place}
use Rattle.graph_rows.proofs.format.codes_from.Goals as goal

pub returns : goal.returns
unfolding labels pairs transitions accepts scope_count edges declarations open_pairs queries past_last sections has_kinds has_turns edge_shape declaration_shape query_shape shapes_of content_number code shape_bytes has_range kept_ranged ranged range_bytes layout layouts format_bytes
returns c = record { answer = from_place format_bytes c.args.o c.min.result c.min.ensures }
