use Prim.Native.Nat.{◌*◌}
use Rattle.board.proofs.Passes.{Better}
use Rattle.board.proofs.order.better_table.Given as goal

abbrev pub invariant-loop-i : goal.invariant-loop-i
invariant-loop-i l = Better l.rows (l.i * 6) l.t
