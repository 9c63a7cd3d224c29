use Prim.Native.Nat.{◌*◌}
use Rattle.board.proofs.Passes.{Stepping}
use Rattle.board.proofs.automaton.transition_table.Given as goal

abbrev pub invariant-loop-i : goal.invariant-loop-i
invariant-loop-i l = Stepping l.rows (l.i * 6) l.t
