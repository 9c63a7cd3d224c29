use mathlib.Core.Path.{◌≡◌}
use lib.ListN.{length, drop}
use Rattle.dot_text.specs.Reading.{scopes_next}
use Rattle.dot_text.proofs.whole.past_scopes.Given as goal

abbrev pub invariant-loop-next : goal.invariant-loop-next
invariant-loop-next l = (scopes_next (drop l.p l.text)).rest ≡ (scopes_next (drop l.initial.p l.text)).rest

abbrev pub decreases-loop-next : goal.decreases-loop-next
decreases-loop-next l = length (drop l.p l.text)
