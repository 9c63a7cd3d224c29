-- `ahead` meets its contract. Assumes nothing.
use native.Mathlib.Omega.{arith}
use lib.Count.{trailing_le}
use lib.ListN.{length-set}
use Rattle.beginnings.proofs.ahead.ahead.Goals as goal

pub loop-i-init : goal.loop-i-init
loop-i-init c = omega arith

pub returns-then-layer-eq0 : goal.returns-then-layer-eq0
returns-then-layer-eq0 c = tt

pub overflow_cast-u : goal.overflow_cast-u
overflow_cast-u c = omega (arith, trailing_le 64 c.at_hand-layer.result)

pub offset_bounds-near-u : goal.offset_bounds-near-u
offset_bounds-near-u c = omega arith

pub bounds-near-u : goal.bounds-near-u
bounds-near-u c = omega arith

pub offset_bounds-out-u : goal.offset_bounds-out-u
offset_bounds-out-u c = omega arith

pub bounds-out-u : goal.bounds-out-u
bounds-out-u c = omega arith

pub offset_bounds-near-u-in-loop-i : goal.offset_bounds-near-u-in-loop-i
offset_bounds-near-u-in-loop-i c = omega arith

pub bounds-near-u-in-loop-i : goal.bounds-near-u-in-loop-i
bounds-near-u-in-loop-i c = omega arith

pub loop-i-preserved : goal.loop-i-preserved
loop-i-preserved c = simp length-set c.loop-i.invariant

pub returns : goal.returns
returns c = tt
