use Prim.Native.Nat.{◌*◌}
use Rattle.board.proofs.Passes.{Accepting}
use Rattle.board.proofs.automaton.accepting.Given as goal

abbrev pub invariant-loop-i : goal.invariant-loop-i
invariant-loop-i l = Accepting l.rows (l.i * 6) l.out
