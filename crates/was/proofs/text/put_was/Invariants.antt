use Rattle.text_field.specs.Writing.{Wrote}
use Rattle.was.proofs.WritingLaws.{lines_to}
use Rattle.was.proofs.text.put_was.Given as goal

abbrev pub invariant-loop-v : goal.invariant-loop-v
invariant-loop-v l = Wrote l.initial.to l.to (lines_to l.list l.v-index)
