-- `put_line` meets its contract. Assumes nothing.
use Rattle.text_field.proofs.WritingLaws.{◌then◌}
use Rattle.was.specs.WasText.{number_line}
use Rattle.was.proofs.text.put_line.Goals as goal

pub returns : goal.returns
unfolding number_line
returns c = record { wrote = c.put_number.ensures.wrote then c.put.ensures.wrote }
