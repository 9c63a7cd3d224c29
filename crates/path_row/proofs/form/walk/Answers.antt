-- `path_row::form::walk` meets its contract. The loop's invariant: what is left gives the whole.
-- Assumes nothing.
use mathlib.Core.Path.{◌≡◌}
use native.Mathlib.Omega.{arith}
use Prim.Native.Nat.{◌+◌, ◌-◌}
use Rattle.path_row.proofs.Steps.{going_first, going_on, going_stops, going_full}
use Rattle.path_row.proofs.form.walk.Goals as goal

pub loop-count-init : goal.loop-count-init
loop-count-init c = going_first c.args.s.now c.args.at

pub returns-in_default : goal.returns-in_default
returns-in_default c = let told = going_stops c.args.s.now c.args.at c.loop-count.i (63 - c.loop-count.count) c.loop-count.invariant c.next_step.result c.next_step.ensures.answer c.in_default.is in record { number = omega (arith, told.0); place = told.1 }

pub loop-count-preserved : goal.loop-count-preserved
loop-count-preserved c =
    let one_less : 63 - (c.loop-count.count + 1) ≡ 63 - c.loop-count.count - 1 = omega arith
    in rw one_less (going_on c.args.s.now c.args.at c.loop-count.i (63 - c.loop-count.count) c.loop-count.invariant c.next_step.result c.next_step.ensures.answer c.in-Some.field-0-0 c.in-Some.next c.in-Some.is (omega arith))

pub returns : goal.returns
returns c = let told = going_full c.args.s.now c.args.at c.loop-count.i (63 - c.loop-count.count) c.loop-count.invariant (omega arith) in record { number = told.0; place = told.1 }
