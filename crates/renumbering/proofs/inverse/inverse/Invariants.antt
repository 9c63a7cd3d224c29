use Rattle.renumbering.proofs.InverseLaws.{Filled}
use Rattle.renumbering.proofs.inverse.inverse.Given as goal

abbrev pub invariant-loop-i : goal.invariant-loop-i
invariant-loop-i l = Filled l.list l.out l.i
