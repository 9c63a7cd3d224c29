-- `note_layer` is safe and ends. Assumes nothing.
use mathlib.Core.Path.{refl}
use native.Mathlib.Omega.{arith}
use Rattle.search.proofs.near.note_layer.Goals as goal

pub loop-left-init : goal.loop-left-init
loop-left-init c = refl

pub least_of-s-requires : goal.least_of-s-requires
least_of-s-requires c = record { some = omega arith }

pub offset_bounds-layer-s : goal.offset_bounds-layer-s
offset_bounds-layer-s c = omega arith

pub bounds-layer-s : goal.bounds-layer-s
bounds-layer-s c = omega arith

pub rest_of-left-requires : goal.rest_of-left-requires
rest_of-left-requires c = record { some = omega arith }

pub loop-left-smaller : goal.loop-left-smaller
loop-left-smaller c = c.rest_of-left.ensures.less

pub loop-left-preserved : goal.loop-left-preserved
loop-left-preserved c = omega arith

pub shape_of-out : goal.shape_of-out
shape_of-out c = c.loop-left.invariant

pub returns : goal.returns
returns c = tt
