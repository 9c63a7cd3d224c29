-- `judge_on` meets its contract: 7, then 8, then 9, then the row's standing. Assumes nothing.
use mathlib.Core.Path.{refl}
use native.Mathlib.Omega.{arith}
use Rattle.text_field.specs.Refusal.{number_of}
use Rattle.path_row.proofs.RowReads.{row_is_refused}
use Rattle.path_row.proofs.TakenLaws.{at_hand_all}
use Rattle.board.proofs.Queries.{query_whole, query_asked_lem}
use Rattle.judge.specs.Judge.{judge_of}
use Rattle.judge.proofs.LentLaws.{hands_none}
use Rattle.judge.proofs.Calls.{row_read, no_query_lem, bare_row, no_room, judges}
use Rattle.judge.proofs.text.judge_on.Goals as goal

pub part-queries-requires : goal.part-queries-requires
part-queries-requires c = record { made = c.requires.made; section = omega arith }

pub returns-then-row_count-query : goal.returns-then-row_count-query
unfolding number_of
returns-then-row_count-query c = record { answer = hands_none (judge_of c.args.table.now c.args.query c.args.row.now c.args.room) c.args.row.now _ c.refused_row.result (c.refused_row.ensures.answer, c.refused_row.ensures.steps) (no_query_lem c.args.table.now c.requires.read _ c.args.query _ c.part-queries.ensures.answer c.row_count.ensures.answer c.args.row.now c.args.room c.if-row_count-query.true) }

pub returns-in_default : goal.returns-in_default
unfolding number_of
returns-in_default c = record { answer = hands_none (judge_of c.args.table.now c.args.query c.args.row.now c.args.room) c.args.row.now _ c.refused_row-in_default.result (c.refused_row-in_default.ensures.answer, c.refused_row-in_default.ensures.steps) (bare_row c.args.table.now c.requires.read _ c.args.query _ c.part-queries.ensures.answer c.row_count.ensures.answer c.args.row.now c.args.room c.if-row_count-query.false (row_is_refused c.args.row.now _ c.read_row.ensures.answer c.in_default.is)) }

pub returns-then-room-count : goal.returns-then-room-count
unfolding number_of
returns-then-room-count c = record { answer = hands_none (judge_of c.args.table.now c.args.query c.args.row.now c.args.room) c.args.row.now _ c.refused_row-then-room-count.result (c.refused_row-then-room-count.ensures.answer, c.refused_row-then-room-count.ensures.steps) (no_room c.args.table.now c.requires.read _ c.args.query _ c.part-queries.ensures.answer c.row_count.ensures.answer c.args.row.now c.args.room c.if-row_count-query.false c.in-Some.mark c.in-Some.from c.in-Some.count (row_read c.args.row.now _ c.read_row.ensures.answer _ _ _ c.in-Some.is) c.if-room-count.true) }

pub overflow_mul-query : goal.overflow_mul-query
overflow_mul-query c = let w = query_whole c.args.table.now c.requires.read _ c.part-queries.ensures.answer c.args.query _ c.row_count.ensures.answer c.if-row_count-query.false in omega arith

pub query_row-sought-requires : goal.query_row-sought-requires
query_row-sought-requires c = record { whole = query_whole c.args.table.now c.requires.read _ c.part-queries.ensures.answer c.args.query _ c.row_count.ensures.answer c.if-row_count-query.false }

pub standing-judged-requires : goal.standing-judged-requires
standing-judged-requires c = record { asked = query_asked_lem c.args.table.now c.requires.read _ c.part-queries.ensures.answer c.args.query _ c.row_count.ensures.answer c.if-row_count-query.false _ _ refl c.query_row-sought.ensures.answer; made = c.requires.made }

pub returns : goal.returns
returns c = record { answer = judges c.args.table.now c.requires.read _ c.args.query _ c.part-queries.ensures.answer c.row_count.ensures.answer c.args.row.now c.args.room c.if-row_count-query.false c.in-Some.mark c.in-Some.from c.in-Some.count (row_read c.args.row.now _ c.read_row.ensures.answer _ _ _ c.in-Some.is) c.if-room-count.false _ _ refl c.query_row-sought.ensures.answer _ c.steps_of-steps.ensures.answer _ (rw (c.as_slice.ensures.answer, at_hand_all _ _ c.steps_of-steps.ensures.answer) at c.standing-judged.ensures.answer) }
