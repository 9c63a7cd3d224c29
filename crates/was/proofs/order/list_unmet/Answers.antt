-- `list_unmet` meets its contract. The loop's invariant is `Missing`: of the `count` scopes those
-- below s are gathered. Assumes nothing.
use mathlib.Core.Path.{refl}
use native.Mathlib.Omega.{arith}
use Rattle.was.proofs.Walking.{missing_start, missing_next, missing_end}
use Rattle.was.proofs.order.list_unmet.Goals as goal

pub loop-s-init : goal.loop-s-init
loop-s-init c = missing_start c.args.to.now.list c.args.to.now.count 0 refl c.requires.listed

pub add-requires : goal.add-requires
add-requires c = record { scope = omega arith; listed = c.loop-s.invariant.held.begins }

pub loop-s-preserved : goal.loop-s-preserved
loop-s-preserved c = missing_next c.args.to.now.list c.args.to.now.count c.loop-s.to.list c.loop-s.to.count c.loop-s.s _ _ _ c.loop-s.invariant (omega arith) refl c.add.ensures.count c.add.ensures.memory

pub returns : goal.returns
returns c = let told = missing_end c.args.to.now.list c.args.to.now.count c.loop-s.to.list c.loop-s.to.count c.loop-s.s c.args.count c.loop-s.invariant (omega arith) in record { count = told.0; memory = told.1 }
