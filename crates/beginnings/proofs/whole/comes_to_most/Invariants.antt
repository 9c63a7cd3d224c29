use Prim.Native.Nat.{◌-◌, ◌≤◌}
use Rattle.beginnings.proofs.whole.comes_to_most.Given as goal

abbrev pub invariant-loop-width : goal.invariant-loop-width
invariant-loop-width l = 12 ≤ l.width

abbrev pub decreases-loop-width : goal.decreases-loop-width
decreases-loop-width l = 52 - l.width
