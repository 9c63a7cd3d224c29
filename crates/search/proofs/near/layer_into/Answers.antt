-- `layer_into` is safe and ends. Assumes nothing.
use mathlib.Core.Path.{refl}
use native.Mathlib.Omega.{arith}
use Rattle.search.proofs.near.layer_into.Goals as goal

pub overflow_add-t : goal.overflow_add-t
overflow_add-t c = omega arith

pub loop-p-init : goal.loop-p-init
loop-p-init c = (refl, refl)

pub loop-p-preserved : goal.loop-p-preserved
loop-p-preserved c = (omega arith, omega arith)

pub shape_of-held : goal.shape_of-held
shape_of-held c = c.loop-p.invariant.0

pub shape_of-next : goal.shape_of-next
shape_of-next c = c.loop-p.invariant.1

pub returns : goal.returns
returns c = tt
