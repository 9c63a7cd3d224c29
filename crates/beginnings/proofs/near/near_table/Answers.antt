-- `near_table` meets its contract. Assumes nothing.
use native.Mathlib.Omega.{arith}
use lib.ListN.{length-set}
use Rattle.beginnings.proofs.NearLaws.{covers_more, covers_all}
use Rattle.beginnings.proofs.near.near_table.Goals as goal

pub loop-s-init : goal.loop-s-init
loop-s-init c = (omega arith, λ s h k m. absurd (omega arith))

pub loop-s-preserved : goal.loop-s-preserved
loop-s-preserved c = (simp length-set c.loop-s.invariant.0, covers_more c.args.block.now c.loop-s.out c.loop-s.invariant.0 _ _ (omega arith) c.loop-s.invariant.1 c.near_of.ensures.covers)

pub returns : goal.returns
returns c = record { covers = covers_all c.args.block.now c.loop-s.out c.loop-s.invariant.0 c.loop-s.s (omega arith) c.loop-s.invariant.1 }
