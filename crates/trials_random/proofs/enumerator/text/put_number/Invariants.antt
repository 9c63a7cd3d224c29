use mathlib.Core.Path.{◌≡◌}
use lib.ListN.{length}
use Rattle.trials_random.proofs.enumerator.text.put_number.Given as goal

abbrev pub invariant-loop-unit : goal.invariant-loop-unit
invariant-loop-unit l = length l.initial.out ≡ length l.out

abbrev pub decreases-loop-unit : goal.decreases-loop-unit
decreases-loop-unit l = l.unit
