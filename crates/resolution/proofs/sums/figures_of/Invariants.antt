use Rattle.resolution.proofs.Counts.{Counted}
use Rattle.resolution.proofs.sums.figures_of.Given as goal

abbrev pub invariant-loop-i : goal.invariant-loop-i
invariant-loop-i l = Counted l.table l.i l.c
