use mathlib.Core.Path.{◌≡◌}
use Prim.Native.Nat.{◌*◌}
use Rattle.judge.proofs.MarkLaws.{marks_left}
use Rattle.judge.proofs.reached.has_mark.Given as goal

abbrev pub invariant-loop-i : goal.invariant-loop-i
invariant-loop-i l = marks_left l.sought l.mark l.s l.decls (l.i * 6) ≡ marks_left l.sought l.mark l.s l.decls 0
