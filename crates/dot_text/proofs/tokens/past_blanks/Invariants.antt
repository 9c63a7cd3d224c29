use mathlib.Core.Path.{◌≡◌}
use lib.ListN.{drop}
use Rattle.dot_text.specs.Reading.{past_blanks}
use Rattle.dot_text.proofs.tokens.past_blanks.Given as goal

abbrev pub invariant-loop-i : goal.invariant-loop-i
invariant-loop-i l = past_blanks (drop l.i l.text) ≡ past_blanks (drop l.initial.i l.text)
