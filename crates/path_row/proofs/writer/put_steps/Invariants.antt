use lib.ListN.{drop}
use Rattle.text_field.proofs.WritingLaws.{Left}
use Rattle.path_row.specs.Form.{steps_text}
use Rattle.path_row.proofs.writer.put_steps.Given as goal

abbrev pub invariant-loop-step : goal.invariant-loop-step
invariant-loop-step l = Left l.initial.to l.to (steps_text l.steps) (steps_text (drop l.step-index l.steps))
