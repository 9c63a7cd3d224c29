use mathlib.Core.Path.{◌≡◌}
use lib.ListN.{drop}
use Rattle.comparison.specs.Steps.{steps_preferred}
use Rattle.comparison.proofs.steps.steps_preferred.Given as goal

abbrev pub invariant-loop-i : goal.invariant-loop-i
invariant-loop-i l = steps_preferred l.block l.scope l.a l.b ≡ steps_preferred l.block l.from (drop l.i l.a) (drop l.i l.b)
