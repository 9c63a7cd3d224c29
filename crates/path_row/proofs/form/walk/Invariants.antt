use Prim.Native.Nat.{◌-◌}
use Rattle.path_row.proofs.Steps.{Going}
use Rattle.path_row.proofs.form.walk.Given as goal

abbrev pub invariant-loop-count : goal.invariant-loop-count
invariant-loop-count l = Going l.s l.at l.i (63 - l.count)
