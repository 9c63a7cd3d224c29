-- `put_step` meets its contract: letter, scope. Assumes nothing.
use Rattle.path_row.specs.Form.{step_text}
use Rattle.text_field.proofs.WritingLaws.{◌then◌}
use Rattle.path_row.proofs.text.put_step.Goals as goal

pub returns : goal.returns
unfolding step_text
returns c = record { wrote = c.put.ensures.wrote then c.put_number.ensures.wrote }
