-- `layer_before` is safe and ends. Assumes nothing.
use mathlib.Core.Path.{refl}
use native.Mathlib.Omega.{arith}
use Rattle.search.proofs.near.layer_before.Goals as goal

pub loop-left-init : goal.loop-left-init
loop-left-init c = (refl, refl)

pub least_of-t-requires : goal.least_of-t-requires
least_of-t-requires c = record { some = omega arith }

pub offset_bounds-layer-t : goal.offset_bounds-layer-t
offset_bounds-layer-t c = omega arith

pub bounds-layer-t : goal.bounds-layer-t
bounds-layer-t c = omega arith

pub rest_of-left-requires : goal.rest_of-left-requires
rest_of-left-requires c = record { some = omega arith }

pub loop-left-smaller : goal.loop-left-smaller
loop-left-smaller c = c.rest_of-left.ensures.less

pub loop-left-preserved : goal.loop-left-preserved
loop-left-preserved c = (omega arith, omega arith)

pub shape_of-held : goal.shape_of-held
shape_of-held c = c.loop-left.invariant.0

pub shape_of-next : goal.shape_of-next
shape_of-next c = c.loop-left.invariant.1

pub returns : goal.returns
returns c = tt
