-- A file with turns (document 02, K12), computed by the definitions: read, and written back.
-- Assumes nothing.
use Prim.Native.Nat.{ℕ}
use mathlib.Core.Path.{◌≡◌, refl}
use mathlib.Core.List.{List, [], ◌∷◌}
use Rattle.text_field.specs.Bytes.{within, is_digit, is_capital, is_lower, is_name_byte}
use Rattle.text_field.specs.Number.{digits_of, number_text, growing, digits_from, number_here, number_meaning}
use Rattle.text_field.specs.Name.{all_name_bytes, is_name, packed, pack_high, pack_low, bytes_of, before_zero, name_text, is_name_cells, name_run, name_of, name_here, name_meaning}
use Rattle.graph_rows.specs.Format.{labels, pairs, transitions, accepts, scope_count, edges, declarations, open_pairs, queries, sections, section_at, has_kinds, has_turns, edge_shape, declaration_shape, query_shape, shapes_of, shape_at, values_of, every_item}
use Rattle.text_field.specs.Outcome.{done, and_then, refuse_if}
use Rattle.graph_rows.specs.Admission.{nothing, begun, joined, counted, taken, content_in_range, item_in_range, in_range, row_of, key_less, listed, ascends, same_source, same_edge, repeats, follows, unless, admission, place}
use Rattle.graph_file.specs.Line.{number_taken, name_taken, byte_taken, end_taken, read_field, read_item, place_of, read_items, end_byte, field_text, item_text, line_text}
use Rattle.graph_rows.specs.Way.{starts_with, if_admitted, after_row, one_row, through_rows, after_names, enough, through_section, is_empty, through_sections, through_some, ordered, at_start, whole}
use Rattle.graph_rows.specs.Values.{formed, field_formed, item_formed, spares_place, idle_zero, idle_zeros}
use Rattle.graph_rows.specs.Order.{some_row, same_ends, gap, pair_fault, order_fault}
use Rattle.graph_file.specs.File.{read_names, row_follows, read_row, reading, form_shown, form_after, turns_in, kinds_in, form_with, form_of, read_stage, made_of, read_cells, write_names, write_row, writing, write_text}
use Rattle.graph_rows.specs.Tested.{has_form, form_in, test_row}

abbrev pub turns_text : List ℕ
turns_text = 108 ∷ 97 ∷ 98 ∷ 101 ∷ 108 ∷ 10 ∷ 73 ∷ 10 ∷ 80 ∷ 10 ∷ 108 ∷ 101 ∷ 115 ∷ 115 ∷ 32 ∷ 109 ∷ 111 ∷ 114 ∷ 101 ∷ 10 ∷ 115 ∷ 116 ∷ 97 ∷ 116 ∷ 101 ∷ 32 ∷ 108 ∷ 97 ∷ 98 ∷ 101 ∷ 108 ∷ 32 ∷ 110 ∷ 101 ∷ 120 ∷ 116 ∷ 10 ∷ 48 ∷ 32 ∷ 73 ∷ 32 ∷ 48 ∷ 10 ∷ 97 ∷ 99 ∷ 99 ∷ 101 ∷ 112 ∷ 116 ∷ 10 ∷ 48 ∷ 10 ∷ 115 ∷ 99 ∷ 111 ∷ 112 ∷ 101 ∷ 115 ∷ 10 ∷ 51 ∷ 10 ∷ 102 ∷ 114 ∷ 111 ∷ 109 ∷ 32 ∷ 108 ∷ 97 ∷ 98 ∷ 101 ∷ 108 ∷ 32 ∷ 116 ∷ 117 ∷ 114 ∷ 110 ∷ 32 ∷ 116 ∷ 111 ∷ 10 ∷ 48 ∷ 32 ∷ 73 ∷ 32 ∷ 49 ∷ 32 ∷ 50 ∷ 10 ∷ 48 ∷ 32 ∷ 73 ∷ 32 ∷ 50 ∷ 32 ∷ 49 ∷ 10 ∷ 49 ∷ 32 ∷ 80 ∷ 32 ∷ 48 ∷ 32 ∷ 48 ∷ 10 ∷ 97 ∷ 116 ∷ 32 ∷ 107 ∷ 105 ∷ 110 ∷ 100 ∷ 32 ∷ 110 ∷ 97 ∷ 109 ∷ 101 ∷ 32 ∷ 109 ∷ 97 ∷ 114 ∷ 107 ∷ 10 ∷ 49 ∷ 32 ∷ 118 ∷ 32 ∷ 104 ∷ 111 ∷ 117 ∷ 114 ∷ 115 ∷ 32 ∷ 53 ∷ 10 ∷ 50 ∷ 32 ∷ 99 ∷ 32 ∷ 104 ∷ 111 ∷ 117 ∷ 114 ∷ 115 ∷ 32 ∷ 55 ∷ 10 ∷ 97 ∷ 116 ∷ 32 ∷ 111 ∷ 112 ∷ 101 ∷ 110 ∷ 10 ∷ 115 ∷ 116 ∷ 97 ∷ 114 ∷ 116 ∷ 32 ∷ 107 ∷ 105 ∷ 110 ∷ 100 ∷ 32 ∷ 115 ∷ 101 ∷ 101 ∷ 107 ∷ 10 ∷ 48 ∷ 32 ∷ 118 ∷ 32 ∷ 104 ∷ 111 ∷ 117 ∷ 114 ∷ 115 ∷ 10 ∷ []

abbrev pub turns_cells : List ℕ
turns_cells = 2 ∷ 0 ∷ 73 ∷ 0 ∷ 0 ∷ 0 ∷ 0 ∷ 0 ∷ 80 ∷ 0 ∷ 0 ∷ 0 ∷ 0 ∷ 2 ∷ 0 ∷ 0 ∷ 0 ∷ 0 ∷ 0 ∷ 3 ∷ 0 ∷ 0 ∷ 0 ∷ 0 ∷ 0 ∷ 4 ∷ 3 ∷ 0 ∷ 0 ∷ 0 ∷ 0 ∷ 5 ∷ 0 ∷ 0 ∷ 2 ∷ 1 ∷ 0 ∷ 5 ∷ 0 ∷ 0 ∷ 1 ∷ 2 ∷ 0 ∷ 5 ∷ 1 ∷ 1 ∷ 0 ∷ 0 ∷ 0 ∷ 6 ∷ 1 ∷ 118 ∷ 7525362636775489536 ∷ 0 ∷ 5 ∷ 6 ∷ 2 ∷ 99 ∷ 7525362636775489536 ∷ 0 ∷ 7 ∷ 8 ∷ 0 ∷ 118 ∷ 7525362636775489536 ∷ 0 ∷ 0 ∷ []

pub turns_read : read_cells turns_text ≡ done turns_cells
unfolding labels pairs transitions accepts scope_count edges declarations open_pairs queries sections section_at has_kinds has_turns edge_shape declaration_shape query_shape shapes_of shape_at and_then refuse_if nothing begun joined counted taken every_item content_in_range item_in_range in_range key_less listed ascends same_source same_edge repeats follows unless admission some_row same_ends gap pair_fault order_fault if_admitted after_row one_row through_rows after_names enough through_section is_empty through_sections ordered at_start whole made_of within is_digit is_capital is_lower is_name_byte number_taken number_meaning name_taken name_meaning byte_taken place end_taken read_field starts_with read_item place_of read_items growing digits_from number_here packed pack_high pack_low name_run name_of name_here read_names row_follows read_row reading through_some form_shown form_after turns_in kinds_in form_with form_of read_stage read_cells
turns_read = refl

pub turns_written : write_text turns_cells ≡ done turns_text
unfolding labels pairs transitions accepts scope_count edges declarations open_pairs queries sections section_at has_kinds has_turns edge_shape declaration_shape query_shape shapes_of shape_at and_then refuse_if nothing begun joined counted taken every_item content_in_range item_in_range in_range key_less listed ascends same_source same_edge repeats follows unless admission some_row same_ends gap pair_fault order_fault if_admitted after_row one_row through_rows after_names enough through_section is_empty through_sections ordered at_start whole made_of within is_digit is_capital is_lower is_name_byte digits_of number_text all_name_bytes is_name packed pack_high pack_low bytes_of before_zero name_text is_name_cells end_byte field_text item_text line_text field_formed item_formed values_of spares_place idle_zero idle_zeros formed row_of write_names starts_with test_row write_row writing has_form form_in write_text
turns_written = refl
