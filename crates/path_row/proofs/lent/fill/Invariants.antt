use mathlib.Core.Path.{◌≡◌}
use Rattle.path_row.specs.Form.{steps_taken}
use Rattle.path_row.proofs.LentLaws.{filled}
use Rattle.path_row.proofs.lent.fill.Given as goal

abbrev pub invariant-loop-i : goal.invariant-loop-i
invariant-loop-i l = l.out ≡ filled (steps_taken l.steps) l.i l.fn.out
