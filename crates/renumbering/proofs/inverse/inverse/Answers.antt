-- `inverse` meets its contract. The loop's invariant is `Filled`: the places of the first i numbers
-- are there. Assumes nothing.
use native.Mathlib.Omega.{arith}
use Rattle.renumbering.proofs.InverseLaws.{filled_start, number_below, filled_next, filled_all}
use Rattle.renumbering.proofs.inverse.inverse.Goals as goal

pub loop-i-init : goal.loop-i-init
loop-i-init c = filled_start _

pub offset_bounds-out-x : goal.offset_bounds-out-x
offset_bounds-out-x c = let b = number_below c.args.list.now c.loop-i.out c.loop-i.i c.requires.once c.loop-i-test.true in omega arith

pub bounds-out-x : goal.bounds-out-x
bounds-out-x c = let b = number_below c.args.list.now c.loop-i.out c.loop-i.i c.requires.once c.loop-i-test.true in omega arith

pub loop-i-preserved : goal.loop-i-preserved
loop-i-preserved c = filled_next c.args.list.now c.loop-i.out c.loop-i.i c.requires.once c.loop-i-test.true c.requires.room c.loop-i.invariant

pub returns : goal.returns
returns c = record { answer = filled_all c.args.list.now c.loop-i.out c.requires.once c.requires.room c.loop-i.i c.loop-i-test.false c.loop-i.invariant }
