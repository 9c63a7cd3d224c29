-- `turn_over` is safe and ends. Assumes nothing.
use mathlib.Core.Path.{refl}
use native.Mathlib.Omega.{arith}
use lib.ListN.{length-set}
use Rattle.search.proofs.grow.turn_over.Goals as goal

pub loop-s-init : goal.loop-s-init
loop-s-init c = refl

pub offset_bounds-table-s : goal.offset_bounds-table-s
offset_bounds-table-s c = omega arith

pub bounds-table-s : goal.bounds-table-s
bounds-table-s c = omega arith

pub offset_bounds-table-s-in-loop-s : goal.offset_bounds-table-s-in-loop-s
offset_bounds-table-s-in-loop-s c = omega arith

pub bounds-table-s-in-loop-s : goal.bounds-table-s-in-loop-s
bounds-table-s-in-loop-s c = omega arith

pub loop-s-preserved : goal.loop-s-preserved
loop-s-preserved c = simp length-set c.loop-s.invariant

pub shape_of-table : goal.shape_of-table
shape_of-table c = c.loop-s.invariant

pub returns : goal.returns
returns c = tt
