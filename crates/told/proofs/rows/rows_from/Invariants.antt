use Prim.Native.Nat.{◌-◌}
use lib.ListN.{length}
use Rattle.told.proofs.RowLaws.{Passed}
use Rattle.told.proofs.rows.rows_from.Given as goal

abbrev pub invariant-loop-next : goal.invariant-loop-next
invariant-loop-next l = Passed l.s l.at l.k l.count

abbrev pub decreases-loop-next : goal.decreases-loop-next
decreases-loop-next l = length l.s - l.k
