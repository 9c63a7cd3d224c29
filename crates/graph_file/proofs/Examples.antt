-- The example of document 01, and a file with kinds, computed by the definitions: read, written
-- back, and the names that their queries seek. Assumes nothing.
use Prim.Native.Nat.{ℕ}
use mathlib.Core.Path.{◌≡◌, refl}
use mathlib.Core.List.{List, [], ◌∷◌}
use Rattle.text_field.specs.Bytes.{within, is_digit, is_capital, is_lower, is_name_byte}
use Rattle.text_field.specs.Number.{digits_of, number_text, growing, digits_from, number_here, number_meaning}
use Rattle.text_field.specs.Name.{all_name_bytes, is_name, packed, pack_high, pack_low, bytes_of, before_zero, name_text, is_name_cells, name_run, name_of, name_here, name_meaning}
use Rattle.graph_rows.specs.Format.{labels, pairs, transitions, accepts, scope_count, edges, declarations, open_pairs, queries, sections, section_at, has_kinds, has_turns, edge_shape, declaration_shape, query_shape, shapes_of, shape_at, values_of, every_item}
use Rattle.text_field.specs.Outcome.{done, and_then, refuse_if}
use Rattle.graph_rows.specs.Admission.{nothing, begun, joined, counted, taken, content_in_range, item_in_range, in_range, row_of, key_less, listed, ascends, same_source, same_edge, repeats, follows, unless, admission, place}
use Rattle.graph_file.specs.Line.{number_taken, name_taken, byte_taken, end_taken, read_field, read_item, place_of, read_items, end_byte, field_text, item_text, line_text}
use Rattle.graph_rows.specs.Way.{starts_with, if_admitted, after_row, one_row, through_rows, after_names, enough, through_section, is_empty, through_sections, through_some, ordered, at_start, whole}
use Rattle.graph_rows.specs.Values.{formed, field_formed, item_formed, spares_place, idle_zero, idle_zeros}
use Rattle.graph_rows.specs.Order.{some_row, same_ends, gap, pair_fault, order_fault}
use Rattle.graph_file.specs.File.{read_names, row_follows, read_row, reading, form_shown, form_after, turns_in, kinds_in, form_with, form_of, read_stage, made_of, read_cells, write_names, write_row, writing, write_text}
use Rattle.graph_rows.specs.Tested.{has_form, form_in, test_row}
use Rattle.graph_file.specs.NameSought.{after_lines, line_count, name_part, rest_of, is_name_field, from_name, query_from, from_within, from_sought, name_front, name_sought}

abbrev pub example_text : List ℕ
example_text = 108 ∷ 97 ∷ 98 ∷ 101 ∷ 108 ∷ 10 ∷ 73 ∷ 10 ∷ 80 ∷ 10 ∷ 108 ∷ 101 ∷ 115 ∷ 115 ∷ 32 ∷ 109 ∷ 111 ∷ 114 ∷ 101 ∷ 10 ∷ 36 ∷ 32 ∷ 73 ∷ 10 ∷ 36 ∷ 32 ∷ 80 ∷ 10 ∷ 73 ∷ 32 ∷ 80 ∷ 10 ∷ 115 ∷ 116 ∷ 97 ∷ 116 ∷ 101 ∷ 32 ∷ 108 ∷ 97 ∷ 98 ∷ 101 ∷ 108 ∷ 32 ∷ 110 ∷ 101 ∷ 120 ∷ 116 ∷ 10 ∷ 48 ∷ 32 ∷ 73 ∷ 32 ∷ 49 ∷ 10 ∷ 48 ∷ 32 ∷ 80 ∷ 32 ∷ 48 ∷ 10 ∷ 49 ∷ 32 ∷ 73 ∷ 32 ∷ 49 ∷ 10 ∷ 97 ∷ 99 ∷ 99 ∷ 101 ∷ 112 ∷ 116 ∷ 10 ∷ 48 ∷ 10 ∷ 49 ∷ 10 ∷ 115 ∷ 99 ∷ 111 ∷ 112 ∷ 101 ∷ 115 ∷ 10 ∷ 53 ∷ 10 ∷ 102 ∷ 114 ∷ 111 ∷ 109 ∷ 32 ∷ 108 ∷ 97 ∷ 98 ∷ 101 ∷ 108 ∷ 32 ∷ 116 ∷ 111 ∷ 10 ∷ 49 ∷ 32 ∷ 80 ∷ 32 ∷ 48 ∷ 10 ∷ 50 ∷ 32 ∷ 73 ∷ 32 ∷ 52 ∷ 10 ∷ 50 ∷ 32 ∷ 80 ∷ 32 ∷ 49 ∷ 10 ∷ 51 ∷ 32 ∷ 80 ∷ 32 ∷ 49 ∷ 10 ∷ 97 ∷ 116 ∷ 32 ∷ 110 ∷ 97 ∷ 109 ∷ 101 ∷ 32 ∷ 109 ∷ 97 ∷ 114 ∷ 107 ∷ 10 ∷ 48 ∷ 32 ∷ 104 ∷ 111 ∷ 117 ∷ 114 ∷ 115 ∷ 32 ∷ 53 ∷ 10 ∷ 49 ∷ 32 ∷ 115 ∷ 101 ∷ 114 ∷ 118 ∷ 105 ∷ 99 ∷ 101 ∷ 32 ∷ 49 ∷ 48 ∷ 10 ∷ 50 ∷ 32 ∷ 115 ∷ 101 ∷ 114 ∷ 118 ∷ 105 ∷ 99 ∷ 101 ∷ 32 ∷ 50 ∷ 49 ∷ 10 ∷ 52 ∷ 32 ∷ 104 ∷ 111 ∷ 117 ∷ 114 ∷ 115 ∷ 32 ∷ 52 ∷ 48 ∷ 10 ∷ 97 ∷ 116 ∷ 32 ∷ 111 ∷ 112 ∷ 101 ∷ 110 ∷ 10 ∷ 51 ∷ 32 ∷ 36 ∷ 10 ∷ 115 ∷ 116 ∷ 97 ∷ 114 ∷ 116 ∷ 32 ∷ 115 ∷ 101 ∷ 101 ∷ 107 ∷ 10 ∷ 50 ∷ 32 ∷ 115 ∷ 101 ∷ 114 ∷ 118 ∷ 105 ∷ 99 ∷ 101 ∷ 10 ∷ 51 ∷ 32 ∷ 115 ∷ 101 ∷ 114 ∷ 118 ∷ 105 ∷ 99 ∷ 101 ∷ 10 ∷ 50 ∷ 32 ∷ 104 ∷ 111 ∷ 117 ∷ 114 ∷ 115 ∷ 10 ∷ []

abbrev pub example_cells : List ℕ
example_cells = 0 ∷ 0 ∷ 73 ∷ 0 ∷ 0 ∷ 0 ∷ 0 ∷ 0 ∷ 80 ∷ 0 ∷ 0 ∷ 0 ∷ 0 ∷ 1 ∷ 0 ∷ 1 ∷ 0 ∷ 0 ∷ 0 ∷ 1 ∷ 0 ∷ 2 ∷ 0 ∷ 0 ∷ 0 ∷ 1 ∷ 1 ∷ 2 ∷ 0 ∷ 0 ∷ 0 ∷ 2 ∷ 0 ∷ 0 ∷ 1 ∷ 0 ∷ 0 ∷ 2 ∷ 0 ∷ 1 ∷ 0 ∷ 0 ∷ 0 ∷ 2 ∷ 1 ∷ 0 ∷ 1 ∷ 0 ∷ 0 ∷ 3 ∷ 0 ∷ 0 ∷ 0 ∷ 0 ∷ 0 ∷ 3 ∷ 1 ∷ 0 ∷ 0 ∷ 0 ∷ 0 ∷ 4 ∷ 5 ∷ 0 ∷ 0 ∷ 0 ∷ 0 ∷ 5 ∷ 1 ∷ 1 ∷ 0 ∷ 0 ∷ 0 ∷ 5 ∷ 2 ∷ 0 ∷ 4 ∷ 0 ∷ 0 ∷ 5 ∷ 2 ∷ 1 ∷ 1 ∷ 0 ∷ 0 ∷ 5 ∷ 3 ∷ 1 ∷ 1 ∷ 0 ∷ 0 ∷ 6 ∷ 0 ∷ 118 ∷ 7525362636775489536 ∷ 0 ∷ 5 ∷ 6 ∷ 1 ∷ 118 ∷ 8315178139909317888 ∷ 0 ∷ 10 ∷ 6 ∷ 2 ∷ 118 ∷ 8315178139909317888 ∷ 0 ∷ 21 ∷ 6 ∷ 4 ∷ 118 ∷ 7525362636775489536 ∷ 0 ∷ 40 ∷ 7 ∷ 3 ∷ 0 ∷ 0 ∷ 0 ∷ 0 ∷ 8 ∷ 2 ∷ 118 ∷ 8315178139909317888 ∷ 0 ∷ 0 ∷ 8 ∷ 3 ∷ 118 ∷ 8315178139909317888 ∷ 0 ∷ 0 ∷ 8 ∷ 2 ∷ 118 ∷ 7525362636775489536 ∷ 0 ∷ 0 ∷ []

pub example_read : read_cells example_text ≡ done example_cells
unfolding labels pairs transitions accepts scope_count edges declarations open_pairs queries sections section_at has_kinds has_turns edge_shape declaration_shape query_shape shapes_of shape_at and_then refuse_if nothing begun joined counted taken every_item content_in_range item_in_range in_range key_less listed ascends same_source same_edge repeats follows unless admission some_row same_ends gap pair_fault order_fault if_admitted after_row one_row through_rows after_names enough through_section is_empty through_sections ordered at_start whole made_of within is_digit is_capital is_lower is_name_byte number_taken number_meaning name_taken name_meaning byte_taken place end_taken read_field starts_with read_item place_of read_items growing digits_from number_here packed pack_high pack_low name_run name_of name_here read_names row_follows read_row reading through_some form_shown form_after turns_in kinds_in form_with form_of read_stage read_cells
example_read = refl

pub example_written : write_text example_cells ≡ done example_text
unfolding labels pairs transitions accepts scope_count edges declarations open_pairs queries sections section_at has_kinds has_turns edge_shape declaration_shape query_shape shapes_of shape_at and_then refuse_if nothing begun joined counted taken every_item content_in_range item_in_range in_range key_less listed ascends same_source same_edge repeats follows unless admission some_row same_ends gap pair_fault order_fault if_admitted after_row one_row through_rows after_names enough through_section is_empty through_sections ordered at_start whole made_of within is_digit is_capital is_lower is_name_byte digits_of number_text all_name_bytes is_name packed pack_high pack_low bytes_of before_zero name_text is_name_cells end_byte field_text item_text line_text field_formed item_formed values_of spares_place idle_zero idle_zeros formed row_of write_names starts_with test_row write_row writing has_form form_in write_text
example_written = refl

-- the last query's name is `hours`
pub example_name : name_sought example_text 2 ≡ 104 ∷ 111 ∷ 117 ∷ 114 ∷ 115 ∷ []
unfolding labels pairs transitions accepts scope_count edges declarations open_pairs queries sections section_at has_kinds has_turns edge_shape declaration_shape query_shape shapes_of shape_at and_then refuse_if nothing begun joined counted taken every_item content_in_range item_in_range in_range key_less listed ascends same_source same_edge repeats follows unless admission some_row same_ends gap pair_fault order_fault if_admitted after_row one_row through_rows after_names enough through_section is_empty through_sections ordered at_start whole made_of within is_digit is_capital is_lower is_name_byte number_taken number_meaning name_taken name_meaning byte_taken place end_taken read_field starts_with read_item place_of read_items growing digits_from number_here packed pack_high pack_low name_run name_of name_here read_names row_follows read_row reading through_some form_shown form_after turns_in kinds_in form_with form_of read_stage read_cells after_lines line_count name_part rest_of values_of is_name_field from_name query_from from_within from_sought name_front name_sought
example_name = refl

-- there is no query 3
pub example_no_name : name_sought example_text 3 ≡ []
unfolding labels pairs transitions accepts scope_count edges declarations open_pairs queries sections section_at has_kinds has_turns edge_shape declaration_shape query_shape shapes_of shape_at and_then refuse_if nothing begun joined counted taken every_item content_in_range item_in_range in_range key_less listed ascends same_source same_edge repeats follows unless admission some_row same_ends gap pair_fault order_fault if_admitted after_row one_row through_rows after_names enough through_section is_empty through_sections ordered at_start whole made_of within is_digit is_capital is_lower is_name_byte number_taken number_meaning name_taken name_meaning byte_taken place end_taken read_field starts_with read_item place_of read_items growing digits_from number_here packed pack_high pack_low name_run name_of name_here read_names row_follows read_row reading through_some form_shown form_after turns_in kinds_in form_with form_of read_stage read_cells after_lines line_count name_part rest_of values_of is_name_field from_name query_from from_within from_sought name_front name_sought
example_no_name = refl

-- a file with kinds (02, K8): one name in two kinds at one scope, and a query of each
abbrev pub kinds_text : List ℕ
kinds_text = 108 ∷ 97 ∷ 98 ∷ 101 ∷ 108 ∷ 10 ∷ 108 ∷ 101 ∷ 115 ∷ 115 ∷ 32 ∷ 109 ∷ 111 ∷ 114 ∷ 101 ∷ 10 ∷ 115 ∷ 116 ∷ 97 ∷ 116 ∷ 101 ∷ 32 ∷ 108 ∷ 97 ∷ 98 ∷ 101 ∷ 108 ∷ 32 ∷ 110 ∷ 101 ∷ 120 ∷ 116 ∷ 10 ∷ 97 ∷ 99 ∷ 99 ∷ 101 ∷ 112 ∷ 116 ∷ 10 ∷ 48 ∷ 10 ∷ 115 ∷ 99 ∷ 111 ∷ 112 ∷ 101 ∷ 115 ∷ 10 ∷ 49 ∷ 10 ∷ 102 ∷ 114 ∷ 111 ∷ 109 ∷ 32 ∷ 108 ∷ 97 ∷ 98 ∷ 101 ∷ 108 ∷ 32 ∷ 116 ∷ 111 ∷ 10 ∷ 97 ∷ 116 ∷ 32 ∷ 107 ∷ 105 ∷ 110 ∷ 100 ∷ 32 ∷ 110 ∷ 97 ∷ 109 ∷ 101 ∷ 32 ∷ 109 ∷ 97 ∷ 114 ∷ 107 ∷ 10 ∷ 48 ∷ 32 ∷ 99 ∷ 32 ∷ 104 ∷ 111 ∷ 117 ∷ 114 ∷ 115 ∷ 32 ∷ 49 ∷ 10 ∷ 48 ∷ 32 ∷ 118 ∷ 32 ∷ 104 ∷ 111 ∷ 117 ∷ 114 ∷ 115 ∷ 32 ∷ 50 ∷ 10 ∷ 97 ∷ 116 ∷ 32 ∷ 111 ∷ 112 ∷ 101 ∷ 110 ∷ 10 ∷ 115 ∷ 116 ∷ 97 ∷ 114 ∷ 116 ∷ 32 ∷ 107 ∷ 105 ∷ 110 ∷ 100 ∷ 32 ∷ 115 ∷ 101 ∷ 101 ∷ 107 ∷ 10 ∷ 48 ∷ 32 ∷ 118 ∷ 32 ∷ 104 ∷ 111 ∷ 117 ∷ 114 ∷ 115 ∷ 10 ∷ 48 ∷ 32 ∷ 99 ∷ 32 ∷ 104 ∷ 111 ∷ 117 ∷ 114 ∷ 115 ∷ 10 ∷ []

abbrev pub kinds_cells : List ℕ
kinds_cells = 1 ∷ 3 ∷ 0 ∷ 0 ∷ 0 ∷ 0 ∷ 0 ∷ 4 ∷ 1 ∷ 0 ∷ 0 ∷ 0 ∷ 0 ∷ 6 ∷ 0 ∷ 99 ∷ 7525362636775489536 ∷ 0 ∷ 1 ∷ 6 ∷ 0 ∷ 118 ∷ 7525362636775489536 ∷ 0 ∷ 2 ∷ 8 ∷ 0 ∷ 118 ∷ 7525362636775489536 ∷ 0 ∷ 0 ∷ 8 ∷ 0 ∷ 99 ∷ 7525362636775489536 ∷ 0 ∷ 0 ∷ []

pub kinds_read : read_cells kinds_text ≡ done kinds_cells
unfolding labels pairs transitions accepts scope_count edges declarations open_pairs queries sections section_at has_kinds has_turns edge_shape declaration_shape query_shape shapes_of shape_at and_then refuse_if nothing begun joined counted taken every_item content_in_range item_in_range in_range key_less listed ascends same_source same_edge repeats follows unless admission some_row same_ends gap pair_fault order_fault if_admitted after_row one_row through_rows after_names enough through_section is_empty through_sections ordered at_start whole made_of within is_digit is_capital is_lower is_name_byte number_taken number_meaning name_taken name_meaning byte_taken place end_taken read_field starts_with read_item place_of read_items growing digits_from number_here packed pack_high pack_low name_run name_of name_here read_names row_follows read_row reading through_some form_shown form_after turns_in kinds_in form_with form_of read_stage read_cells
kinds_read = refl

pub kinds_written : write_text kinds_cells ≡ done kinds_text
unfolding labels pairs transitions accepts scope_count edges declarations open_pairs queries sections section_at has_kinds has_turns edge_shape declaration_shape query_shape shapes_of shape_at and_then refuse_if nothing begun joined counted taken every_item content_in_range item_in_range in_range key_less listed ascends same_source same_edge repeats follows unless admission some_row same_ends gap pair_fault order_fault if_admitted after_row one_row through_rows after_names enough through_section is_empty through_sections ordered at_start whole made_of within is_digit is_capital is_lower is_name_byte digits_of number_text all_name_bytes is_name packed pack_high pack_low bytes_of before_zero name_text is_name_cells end_byte field_text item_text line_text field_formed item_formed values_of spares_place idle_zero idle_zeros formed row_of write_names starts_with test_row write_row writing has_form form_in write_text
kinds_written = refl

-- the name sought is the name alone
pub kinds_name : name_sought kinds_text 1 ≡ 104 ∷ 111 ∷ 117 ∷ 114 ∷ 115 ∷ []
unfolding labels pairs transitions accepts scope_count edges declarations open_pairs queries sections section_at has_kinds has_turns edge_shape declaration_shape query_shape shapes_of shape_at and_then refuse_if nothing begun joined counted taken every_item content_in_range item_in_range in_range key_less listed ascends same_source same_edge repeats follows unless admission some_row same_ends gap pair_fault order_fault if_admitted after_row one_row through_rows after_names enough through_section is_empty through_sections ordered at_start whole made_of within is_digit is_capital is_lower is_name_byte number_taken number_meaning name_taken name_meaning byte_taken place end_taken read_field starts_with read_item place_of read_items growing digits_from number_here packed pack_high pack_low name_run name_of name_here read_names row_follows read_row reading through_some form_shown form_after turns_in kinds_in form_with form_of read_stage read_cells after_lines line_count name_part rest_of values_of is_name_field from_name query_from from_within from_sought name_front name_sought
kinds_name = refl
