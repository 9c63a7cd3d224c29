use Rattle.follow.proofs.RowLaws.{first_hops}
use Rattle.text_field.specs.Writing.{Wrote}
use Rattle.follow.specs.Text.{hops_text}
use Rattle.follow.specs.Walk.{letter_bytes}
use Rattle.follow.proofs.rows.put_hops.Given as goal

abbrev pub invariant-loop-x : goal.invariant-loop-x
invariant-loop-x l = Wrote l.initial.to l.to (hops_text (letter_bytes l.block) (first_hops l.hops l.x-index))
