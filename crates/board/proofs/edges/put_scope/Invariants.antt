use Prim.Native.Nat.{◌-◌}
use Rattle.board.proofs.EdgeLaws.{Scoping}
use Rattle.board.proofs.edges.put_scope.Given as goal

abbrev pub invariant-loop-now : goal.invariant-loop-now
invariant-loop-now l = Scoping l.rows l.s l.fn.put l.initial.block l.block l.now

abbrev pub decreases-loop-now : goal.decreases-loop-now
decreases-loop-now l = 512 - l.now.edges
