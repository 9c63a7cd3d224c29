-- `put_seek` meets its contract: by the form. Assumes nothing.
use Rattle.text_field.proofs.WritingLaws.{◌then◌}
use Rattle.resolution.proofs.text.put_seek.Goals as goal

pub returns-in-Old : goal.returns-in-Old
returns-in-Old c = record { wrote = rw c.in-Old.is c.put_name.ensures.wrote }

pub returns-in-Kinds : goal.returns-in-Kinds
returns-in-Kinds c = record { wrote = rw c.in-Kinds.is (c.put.ensures.wrote then c.put-in-Kinds.ensures.wrote then c.put_name-in-Kinds.ensures.wrote) }
