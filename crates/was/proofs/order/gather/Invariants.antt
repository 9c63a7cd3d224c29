use Prim.Native.Nat.{◌-◌}
use lib.ListN.{length}
use Rattle.was.proofs.Walking.{Gathering}
use Rattle.was.proofs.order.gather.Given as goal

abbrev pub invariant-loop-p : goal.invariant-loop-p
invariant-loop-p l = Gathering l.edges l.s l.initial.to.list l.initial.to.count l.to.list l.to.count l.p

abbrev pub decreases-loop-p : goal.decreases-loop-p
decreases-loop-p l = length l.edges - l.p
