use mathlib.Core.Path.{◌≡◌}
use lib.ListN.{drop}
use Rattle.text_field.specs.Number.{digits_from}
use Rattle.text_field.proofs.digits_from.Given as goal

abbrev pub invariant-loop-i : goal.invariant-loop-i
invariant-loop-i l = digits_from l.v l.i (drop l.i l.s) ≡ digits_from l.initial.v l.initial.i (drop l.initial.i l.s)
