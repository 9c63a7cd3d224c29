use native.Mathlib.Omega.{arith}
use Rattle.std.proofs.lemmas.Result.{err_from_is_err_and}
use Rattle.text_field.specs.Refusal.{number_of}
use Rattle.graph_rows.specs.Tested.{test_outcome}
use Rattle.graph_rows.proofs.ColumnLaws.{layout_form, layout_section, layout_known}
use Rattle.graph_rows.proofs.CountLaws.{placed_begun, rows_begun}
use Rattle.graph_rows.proofs.TestLaws.{section_refused, section_few, section_enough}
use Rattle.graph_rows.proofs.tested.test_section.Goals as goal

pub test_rows-requires : goal.test_rows-requires
test_rows-requires c =
    let is = layout_section c.args.form c.args.k _ c.layout_of.ensures.answer
    in record { room = (rw is c.requires.room.0, rw (is, c.counts_begun.ensures.answer) (placed_begun c.args.k c.args.p c.args.c c.requires.room.1), rw c.counts_begun.ensures.answer (rows_begun c.args.c), layout_known c.args.form c.args.k _ c.layout_of.ensures.answer) }

pub returns-in_err-r-clause-answer : goal.returns-in_err-r-clause-answer
unfolding test_outcome
returns-in_err-r-clause-answer c =
    let is = layout_section c.args.form c.args.k _ c.layout_of.ensures.answer
    in let file = layout_form c.args.form c.args.k _ c.layout_of.ensures.answer
    in let e = err_from_is_err_and c.from_residual.result c.from_residual.ensures.1
    in rw (e.1, e.2) (section_refused c.args.form c.args.k c.args.table.now c.args.p c.args.c (number_of c.in_err-r.field-0.0) (rw (is, file, c.counts_begun.ensures.answer) at c.in_err-r.ensures.answer))

pub returns-then-r-least-clause-answer : goal.returns-then-r-least-clause-answer
unfolding test_outcome number_of
returns-then-r-least-clause-answer c =
    let is = layout_section c.args.form c.args.k _ c.layout_of.ensures.answer
    in let file = layout_form c.args.form c.args.k _ c.layout_of.ensures.answer
    in section_few c.args.form c.args.k c.args.table.now c.args.p c.args.c c.in_ok-r.r (rw (is, file, c.counts_begun.ensures.answer) at c.in_ok-r.ensures.answer) (omega (arith, c.if-r-least.true, c.least.ensures.answer))

pub returns-clause-answer : goal.returns-clause-answer
returns-clause-answer c =
    let is = layout_section c.args.form c.args.k _ c.layout_of.ensures.answer
    in let file = layout_form c.args.form c.args.k _ c.layout_of.ensures.answer
    in section_enough c.args.form c.args.k c.args.table.now c.args.p c.args.c c.in_ok-r.r (rw (is, file, c.counts_begun.ensures.answer) at c.in_ok-r.ensures.answer) (omega (arith, c.if-r-least.false, c.least.ensures.answer))

pub returns-clause-taken : goal.returns-clause-taken
returns-clause-taken c = let is = layout_section c.args.form c.args.k _ c.layout_of.ensures.answer in rw is at c.in_ok-r.ensures.taken
