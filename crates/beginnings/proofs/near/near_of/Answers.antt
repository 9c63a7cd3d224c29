-- `near_of` meets its contract. Assumes nothing.
use native.Mathlib.Omega.{arith}
use Rattle.beginnings.proofs.NearLaws.{near_none, near_more, near_all}
use Rattle.beginnings.proofs.near.near_of.Goals as goal

pub loop-p-init : goal.loop-p-init
loop-p-init c = rw c.edges_from-p.ensures.answer (near_none _ _ c.requires.scope)

pub loop-p-preserved : goal.loop-p-preserved
loop-p-preserved c = near_more _ _ _ _ _ _ (omega (arith, c)) c.loop-p.invariant c.edge_at.ensures.answer (rw c.edge_scope.ensures.answer at c.single-out.ensures.answer)

pub returns : goal.returns
returns c = record { covers = near_all _ _ _ _ (omega (arith, c.edges_end-p-end.ensures.answer)) c.loop-p.invariant }
