use Rattle.text_field.specs.Writing.{Wrote}
use Rattle.dot.proofs.Texts.{scope_lines}
use Rattle.dot.proofs.lines.put_scopes.Given as goal

abbrev pub invariant-loop-s : goal.invariant-loop-s
invariant-loop-s l = Wrote l.initial.to l.to (scope_lines l.s)
