use mathlib.Core.Path.{◌≡◌}
use lib.ListN.{length}
use Rattle.beginnings.proofs.ahead.ahead.Given as goal

abbrev pub invariant-loop-i : goal.invariant-loop-i
invariant-loop-i l = length l.out ≡ 64
