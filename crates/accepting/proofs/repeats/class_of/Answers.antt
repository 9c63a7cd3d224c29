-- `class_of` meets its contract: what is left of the bytes gives the class of all. Assumes nothing.
use mathlib.Core.Path.{refl, ◌∙◌}
use native.Mathlib.Omega.{arith}
use Rattle.accepting.specs.Classes.{class_of}
use Rattle.accepting.proofs.ClassLaws.{class_end, class_next}
use Rattle.accepting.proofs.repeats.class_of.Goals as goal

pub loop-x-init : goal.loop-x-init
unfolding class_of
loop-x-init c = (refl, omega arith)

pub overflow_cast-class : goal.overflow_cast-class
overflow_cast-class c = omega (arith, c.type_inv.row c.loop-x.x-index)

pub overflow_add-class : goal.overflow_add-class
overflow_add-class c = omega (arith, c.type_inv.row c.loop-x.x-index)

pub loop-x-preserved : goal.loop-x-preserved
loop-x-preserved c = (class_next c.args.row.now c.loop-x.class c.loop-x.x-index (omega arith) ∙ c.loop-x.invariant.0, omega arith)

pub returns : goal.returns
returns c = record { answer = class_end c.args.row.now c.loop-x.class c.loop-x.x-index (omega arith) ∙ c.loop-x.invariant.0; below = c.loop-x.invariant.1 }
