-- `put_distances` is safe and ends. Assumes nothing.
use mathlib.Core.Path.{refl}
use native.Mathlib.Omega.{arith}
use Rattle.search.proofs.near.put_distances.Goals as goal

pub slice_bounds-seed-end : goal.slice_bounds-seed-end
slice_bounds-seed-end c = omega arith

pub loop-d-init : goal.loop-d-init
loop-d-init c = (refl, omega arith, omega arith)

pub slice_bounds-note_layer-end : goal.slice_bounds-note_layer-end
slice_bounds-note_layer-end c = omega arith

pub slice_bounds-layer_before-end : goal.slice_bounds-layer_before-end
slice_bounds-layer_before-end c = omega arith

pub slice_bounds-layer_before-end-in-loop-d : goal.slice_bounds-layer_before-end-in-loop-d
slice_bounds-layer_before-end-in-loop-d c = omega arith

pub slice_bounds-layer_before-end-in-loop-d-2 : goal.slice_bounds-layer_before-end-in-loop-d-2
slice_bounds-layer_before-end-in-loop-d-2 c = omega arith

pub shape_of-out-then-hot-eq0 : goal.shape_of-out-then-hot-eq0
shape_of-out-then-hot-eq0 c = omega arith

pub returns-then-hot-eq0 : goal.returns-then-hot-eq0
returns-then-hot-eq0 c = tt

pub loop-d-preserved : goal.loop-d-preserved
loop-d-preserved c = (omega arith, omega arith, omega arith)

pub shape_of-out : goal.shape_of-out
shape_of-out c = c.loop-d.invariant.0

pub returns : goal.returns
returns c = tt
