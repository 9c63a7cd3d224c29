-- `put_head` meets its contract. Assumes nothing.
use Rattle.text_field.proofs.WritingLaws.{◌then◌}
use Rattle.resolution.specs.Asked.{head_text}
use Rattle.resolution.proofs.text.put_head.Goals as goal

pub returns : goal.returns
unfolding head_text
returns c = record { wrote = c.put_query.ensures.wrote then c.put_found.ensures.wrote then c.put.ensures.wrote then c.put_awaits.ensures.wrote then c.put_bytes.ensures.wrote }
