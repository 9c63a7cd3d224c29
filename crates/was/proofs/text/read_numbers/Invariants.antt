use lib.ListN.{replicate}
use Rattle.was.proofs.ReadingTurns.{Reading}
use Rattle.was.proofs.text.read_numbers.Given as goal

abbrev pub invariant-loop-k : goal.invariant-loop-k
invariant-loop-k l = Reading l.text l.at l.n (replicate 64 0) l.list l.k l.p
