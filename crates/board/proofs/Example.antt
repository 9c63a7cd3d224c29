-- What document 01's example (specs/Example) is read as. Assumes nothing.
use Prim.Native.Nat.{ℕ}
use mathlib.Core.Path.{◌≡◌, refl}
use mathlib.Core.List.{List, [], ◌∷◌}
use Rattle.text_field.specs.Bytes.{within, is_digit, is_capital, is_lower, is_name_byte}
use Rattle.text_field.specs.Number.{growing, digits_from, number_here, number_meaning}
use Rattle.text_field.specs.Name.{packed, pack_high, pack_low, name_run, name_of, name_here, name_meaning}
use Rattle.graph_rows.specs.Format.{labels, pairs, transitions, accepts, scope_count, edges, declarations, open_pairs, queries, sections, section_at, has_kinds, has_turns, edge_shape, declaration_shape, query_shape, shapes_of, shape_at, every_item}
use Rattle.text_field.specs.Outcome.{done, and_then, refuse_if}
use Rattle.graph_rows.specs.Admission.{nothing, begun, joined, counted, taken, content_in_range, item_in_range, in_range, key_less, listed, ascends, same_source, same_edge, repeats, follows, unless, admission, place}
use Rattle.graph_file.specs.Line.{number_taken, name_taken, byte_taken, end_taken, read_field, read_item, place_of, read_items}
use Rattle.graph_rows.specs.Way.{starts_with, if_admitted, after_row, one_row, through_rows, after_names, enough, through_section, is_empty, through_sections, ordered, at_start, whole, through_some}
use Rattle.graph_rows.specs.Order.{some_row, same_ends, gap, pair_fault, order_fault}
use Rattle.graph_file.specs.File.{read_names, row_follows, read_row, reading, form_shown, form_after, turns_in, kinds_in, form_with, form_of, read_stage, made_of, read_cells}
use Rattle.board.specs.Example.{example_text}

-- what reading a text computes with: named alone on an `unfolding` line
unfoldable pub reads : Unit {0}
unfolding labels pairs transitions accepts scope_count edges declarations open_pairs queries sections section_at has_kinds has_turns edge_shape declaration_shape query_shape shapes_of shape_at and_then refuse_if nothing begun joined counted taken every_item content_in_range item_in_range in_range key_less listed ascends same_source same_edge repeats follows unless admission some_row same_ends gap pair_fault order_fault if_admitted after_row one_row through_rows after_names enough through_section is_empty through_sections ordered at_start whole made_of within is_digit is_capital is_lower is_name_byte number_taken number_meaning name_taken name_meaning byte_taken place end_taken read_field starts_with read_item place_of read_items growing digits_from number_here packed pack_high pack_low name_run name_of name_here read_names row_follows read_row reading through_some form_shown form_after turns_in kinds_in form_with form_of read_stage read_cells
reads = tt

abbrev pub example_cells : List ℕ
example_cells = 0 ∷ 0 ∷ 73 ∷ 0 ∷ 0 ∷ 0 ∷ 0 ∷ 0 ∷ 80 ∷ 0 ∷ 0 ∷ 0 ∷ 0 ∷ 1 ∷ 0 ∷ 1 ∷ 0 ∷ 0 ∷ 0 ∷ 1 ∷ 0 ∷ 2 ∷ 0 ∷ 0 ∷ 0 ∷ 1 ∷ 1 ∷ 2 ∷ 0 ∷ 0 ∷ 0 ∷ 2 ∷ 0 ∷ 0 ∷ 1 ∷ 0 ∷ 0 ∷ 2 ∷ 0 ∷ 1 ∷ 0 ∷ 0 ∷ 0 ∷ 2 ∷ 1 ∷ 0 ∷ 1 ∷ 0 ∷ 0 ∷ 3 ∷ 0 ∷ 0 ∷ 0 ∷ 0 ∷ 0 ∷ 3 ∷ 1 ∷ 0 ∷ 0 ∷ 0 ∷ 0 ∷ 4 ∷ 5 ∷ 0 ∷ 0 ∷ 0 ∷ 0 ∷ 5 ∷ 1 ∷ 1 ∷ 0 ∷ 0 ∷ 0 ∷ 5 ∷ 2 ∷ 0 ∷ 4 ∷ 0 ∷ 0 ∷ 5 ∷ 2 ∷ 1 ∷ 1 ∷ 0 ∷ 0 ∷ 5 ∷ 3 ∷ 1 ∷ 1 ∷ 0 ∷ 0 ∷ 6 ∷ 0 ∷ 118 ∷ 7525362636775489536 ∷ 0 ∷ 5 ∷ 6 ∷ 1 ∷ 118 ∷ 8315178139909317888 ∷ 0 ∷ 10 ∷ 6 ∷ 2 ∷ 118 ∷ 8315178139909317888 ∷ 0 ∷ 21 ∷ 6 ∷ 4 ∷ 118 ∷ 7525362636775489536 ∷ 0 ∷ 40 ∷ 7 ∷ 3 ∷ 0 ∷ 0 ∷ 0 ∷ 0 ∷ 8 ∷ 2 ∷ 118 ∷ 8315178139909317888 ∷ 0 ∷ 0 ∷ 8 ∷ 3 ∷ 118 ∷ 8315178139909317888 ∷ 0 ∷ 0 ∷ 8 ∷ 2 ∷ 118 ∷ 7525362636775489536 ∷ 0 ∷ 0 ∷ []

pub example_read : read_cells example_text ≡ done example_cells
unfolding reads
example_read = refl
