-- `path_row::taken::steps_of` meets its contract. The loop's invariant: the steps taken and those
-- that are left make the whole. Assumes nothing.
use mathlib.Core.Path.{◌≡◌, refl, ap}
use mathlib.Core.List.{[]}
use native.Mathlib.Omega.{arith}
use Rattle.path_row.specs.declared.taken.Steps.{Steps}
use Rattle.path_row.proofs.TakenLaws.{taking_full, taking_ends, taking_on}
use Rattle.path_row.proofs.RowReads.{steps_first}
use Rattle.path_row.proofs.taken.steps_of.Goals as goal

pub loop-count-init : goal.loop-count-init
loop-count-init c = record { taken = []; counted = refl; steps = ap (λ (s : Steps). s.steps) c.no_steps.ensures.answer; makes = steps_first c.args.row.now c.first_step-at.result c.first_step-at.ensures.answer }

pub returns-in_default : goal.returns-in_default
returns-in_default c = record { answer = taking_ends c.args.row.now _ _ c.loop-count.at c.loop-count.count c.loop-count.invariant c.next_step.result c.next_step.ensures.answer c.in_default.is }

pub loop-count-preserved : goal.loop-count-preserved
loop-count-preserved c = taking_on c.args.row.now _ _ c.loop-count.at c.loop-count.count c.loop-count.invariant c.next_step.result c.next_step.ensures.answer c.in-Some.step c.in-Some.next c.in-Some.is (omega arith)

pub returns : goal.returns
returns c = let all : c.loop-count.count ≡ 63 = omega arith in record { answer = taking_full c.args.row.now _ _ c.loop-count.at 63 (rw all at c.loop-count.invariant) (omega arith) }
