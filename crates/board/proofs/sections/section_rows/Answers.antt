-- `section_rows` meets its contract. Assumes nothing.
use native.Mathlib.Omega.{arith}
use Rattle.graph_table.proofs.Leading.{first_within}
use Rattle.board.proofs.SectionFound.{from_within_lem, to_within, part_is}
use Rattle.board.proofs.sections.section_rows.Goals as goal

pub rows_from-from-requires : goal.rows_from-from-requires
rows_from-from-requires c = let w = first_within c.args.table.now in record { column = omega arith; within = omega arith }

pub rows_from-to-requires : goal.rows_from-to-requires
rows_from-to-requires c = let w = from_within_lem c.args.k c.args.table.now _ c.first_row.ensures.answer _ c.rows_from-from.ensures.answer in record { column = omega arith; within = omega arith }

pub offset_bounds-table-from : goal.offset_bounds-table-from
offset_bounds-table-from c = let w = from_within_lem c.args.k c.args.table.now _ c.first_row.ensures.answer _ c.rows_from-from.ensures.answer in omega arith

pub slice_bounds-result-end : goal.slice_bounds-result-end
slice_bounds-result-end c = let w = to_within c.args.k c.args.table.now _ c.first_row.ensures.answer _ c.rows_from-from.ensures.answer _ c.rows_from-to.ensures.answer in w.1

pub returns : goal.returns
returns c = record { answer = part_is c.args.k c.args.table.now _ c.first_row.ensures.answer _ c.rows_from-from.ensures.answer _ c.rows_from-to.ensures.answer }
