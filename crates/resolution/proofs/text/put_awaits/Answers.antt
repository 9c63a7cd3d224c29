-- `put_awaits` meets its contract. Assumes nothing.
use Rattle.text_field.proofs.WritingLaws.{◌then◌}
use Rattle.resolution.specs.Asked.{awaits_bytes}
use Rattle.resolution.proofs.text.put_awaits.Goals as goal

pub returns-in-None : goal.returns-in-None
unfolding awaits_bytes
returns-in-None c = record { wrote = rw c.in-None.is c.put.ensures.wrote }

pub returns-in-Some : goal.returns-in-Some
unfolding awaits_bytes
returns-in-Some c = record { wrote = rw (c.in-Some.is, ← c.end_byte.ensures.answer) (c.put_number.ensures.wrote then c.put-in-Some.ensures.wrote) }
