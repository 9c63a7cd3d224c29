use lib.ListN.{length, drop}
use Rattle.dot_text.specs.Reading.{scopes_next}
use Rattle.undot.specs.Scopes.{file_scopes}
use Rattle.undot.proofs.ScopeLaws.{Meeting}
use Rattle.undot.proofs.scopes.has_scopes.Given as goal

abbrev pub invariant-loop-s : goal.invariant-loop-s
invariant-loop-s l = Meeting l.count (file_scopes l.count (scopes_next (drop l.at l.dot)).value) (length l.dot) l.met l.number (drop l.p l.dot)

abbrev pub decreases-loop-s : goal.decreases-loop-s
decreases-loop-s l = length (drop l.p l.dot)
