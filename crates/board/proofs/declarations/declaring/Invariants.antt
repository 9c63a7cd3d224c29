use Prim.Native.Nat.{◌*◌}
use Rattle.graph_table.specs.Values.{packed}
use Rattle.board.proofs.DeclaringLaws.{Declaring}
use Rattle.board.proofs.declarations.declaring.Given as goal

abbrev pub invariant-loop-i : goal.invariant-loop-i
invariant-loop-i l = Declaring l.rows (packed l.name) (l.i * 6) l.out
