use Rattle.accepting.proofs.ListTests.{Left}
use Rattle.accepting.proofs.lists.first_wrong.Given as goal

abbrev pub invariant-loop-i : goal.invariant-loop-i
invariant-loop-i l = Left l.table l.lists l.i l.at
