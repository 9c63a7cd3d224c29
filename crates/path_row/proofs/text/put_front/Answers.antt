-- `put_front` meets its contract: mark, space, start. Assumes nothing.
use Rattle.path_row.specs.Form.{front_text}
use Rattle.text_field.proofs.WritingLaws.{◌then◌}
use Rattle.path_row.proofs.text.put_front.Goals as goal

pub returns : goal.returns
unfolding front_text
returns c = record { wrote = c.put_number.ensures.wrote then c.put.ensures.wrote then c.put_number-2.ensures.wrote }
