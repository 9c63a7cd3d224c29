-- `put_field` meets its contract. Assumes nothing.
use Rattle.text_field.proofs.WritingLaws.{◌then◌}
use Rattle.resolution.specs.Figures.{field_text}
use Rattle.resolution.proofs.sums.put_field.Goals as goal

pub returns : goal.returns
unfolding field_text
returns c = record { wrote = c.put_number.ensures.wrote then c.put.ensures.wrote }
