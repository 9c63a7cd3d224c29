use Prim.Native.Nat.{◌+◌}
use mathlib.Core.Path.{◌≡◌, refl, sym, ap, ◌∙◌}
use native.Mathlib.Omega.{arith}
use Rattle.std.proofs.lemmas.Result.{err_from_is_err_and}
use Rattle.text_field.specs.Answer.{fault_of}
use Rattle.text_field.specs.Refusal.{number_of}
use Rattle.text_field.proofs.RefusalLaws.{number_positive}
use Rattle.graph_rows.specs.declared.rows.Counts.{Counts}
use Rattle.graph_rows.specs.Counting.{counts_after}
use Rattle.graph_rows.specs.Tested.{test_outcome}
use Rattle.graph_rows.proofs.AdmissionLaws.{sorted_none}
use Rattle.graph_rows.proofs.CountLaws.{placed_after}
use Rattle.graph_rows.proofs.TestLaws.{row_room, row_sorted, rows_end, rows_again, rows_stop, rows_start}
use Rattle.graph_rows.proofs.tested.test_rows.Goals as goal

pub loop-s-init : goal.loop-s-init
loop-s-init c = (c.requires.room.1, omega (arith, c.requires.room.2), omega (arith, c.requires.room.2), rows_start c.args.s.form c.args.s.section _ c.args.c c.requires.room.2, sorted_none _ _ _ _ c.requires.room.2)

pub returns-in_err-row_refusal-clause-answer : goal.returns-in_err-row_refusal-clause-answer
unfolding fault_of test_outcome
returns-in_err-row_refusal-clause-answer c =
    let e = err_from_is_err_and c.from_residual.result c.from_residual.ensures.1
    in let x = c.in_err-row_refusal.field-0.0
    in let positive = number_positive x
    in rw (e.1, e.2) (rows_end c.args.s.form c.args.s.section c.loop-s.m c.args.table.now c.loop-s.d c.loop-s.invariant.1 (sym c.row_comes.ensures.answer ∙ c.loop-s-test.true) (number_of x) c.in_err-row_refusal.ensures.answer (λ z. omega arith) ∙ c.loop-s.invariant.3)

pub loop-s-smaller : goal.loop-s-smaller
unfolding fault_of counts_after
loop-s-smaller c =
    let one : c.counts_after-d.result.rows ≡ c.loop-s.d.rows + 1 = ap (λ (x : Counts). x.rows) c.counts_after-d.ensures.answer
    in omega (arith, one, row_room c.args.s.form c.args.s.section c.args.table.now c.loop-s.m c.loop-s.d c.in_ok-row_refusal.ensures.answer, c.loop-s.invariant.1)

pub loop-s-preserved : goal.loop-s-preserved
unfolding fault_of counts_after
loop-s-preserved c =
    let admitted = c.in_ok-row_refusal.ensures.answer
    in let room = row_room c.args.s.form c.args.s.section c.args.table.now c.loop-s.m c.loop-s.d admitted
    in let more = rows_again c.args.s.form c.args.s.section c.loop-s.m c.args.table.now c.loop-s.d c.loop-s.invariant.1 (sym c.row_comes.ensures.answer ∙ c.loop-s-test.true) 0 admitted refl c.loop-s.invariant.0 c.get_or.result c.get_or.ensures.answer ∙ c.loop-s.invariant.3
    in rw c.counts_after-d.ensures.answer (placed_after c.args.s.section c.loop-s.m c.loop-s.d c.get_or.result c.loop-s.invariant.0, omega (arith, room), omega (arith, c.loop-s.invariant.2), more, row_sorted c.args.s.form c.args.s.section c.args.table.now c.loop-s.m c.loop-s.d admitted c.loop-s.invariant.0 c.get_or.result c.loop-s.invariant.4)

pub returns-clause-answer : goal.returns-clause-answer
unfolding test_outcome
returns-clause-answer c = rows_stop c.args.s.form c.args.s.section c.loop-s.m c.args.table.now c.loop-s.d c.loop-s.invariant.1 (sym c.row_comes.ensures.answer ∙ c.loop-s-test.false) ∙ c.loop-s.invariant.3
