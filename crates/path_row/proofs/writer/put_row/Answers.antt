-- `path_row::writer::put_row` meets its contract: the head, then the steps. Assumes nothing.
use Rattle.path_row.specs.Form.{row_text}
use Rattle.text_field.proofs.WritingLaws.{◌then◌}
use Rattle.path_row.proofs.writer.put_row.Goals as goal

pub returns : goal.returns
unfolding row_text
returns c = record { wrote = c.put_front.ensures.wrote then c.put_steps.ensures.wrote }
