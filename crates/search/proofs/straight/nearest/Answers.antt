-- `nearest` meets its contract: each edge gone through is one of the scope's, and only one with a
-- distance is kept. Assumes nothing.
use native.Mathlib.Omega.{arith}
use Rattle.block.proofs.EdgeLaws.{hop_of_scope}
use Rattle.search.proofs.straight.nearest.Goals as goal

pub loop-p-init : goal.loop-p-init
loop-p-init c = (omega (arith, c.edges_from-p.ensures.answer), λ h. absurd (omega arith), omega arith)

pub loop-p-preserved-then-least-d : goal.loop-p-preserved-then-least-d
loop-p-preserved-then-least-d c = (omega (arith, c.loop-p.invariant.0), c.loop-p.invariant.1, c.loop-p.invariant.2)

pub loop-p-preserved : goal.loop-p-preserved
loop-p-preserved c = (
  omega (arith, c.loop-p.invariant.0),
  λ h. record {
    leaves = hop_of_scope _ _ _ c.requires.inside.scope c.loop-p.invariant.0 (omega (arith, c.edges_end-end.ensures.answer));
    worth = rw c.edge_at.ensures.answer at (c.hop_distance-d.ensures.worth (omega (arith, c.loop-p.invariant.2)));
  },
  omega (arith, c.loop-p.invariant.2),
)

pub returns : goal.returns
returns c = record { hop = λ h. c.loop-p.invariant.1 (omega (arith, c.edges_end-end.ensures.answer)) }
