use Prim.Native.Nat.{◌≤◌, ◌<◌}
use Rattle.block.specs.Block.{first_edge}
use Rattle.search.specs.Steps.{HopAt}
use Rattle.search.proofs.straight.nearest.Given as goal

abbrev pub invariant-loop-p : goal.invariant-loop-p
invariant-loop-p l =
    (first_edge l.block l.n.scope ≤ l.p) × (l.best < l.end → HopAt l.block l.live l.n l.labels l.best) × (l.least ≤ 256)
