-- `put_query` meets its contract. Assumes nothing.
use Rattle.text_field.proofs.WritingLaws.{◌then◌}
use Rattle.resolution.specs.Asked.{query_text}
use Rattle.resolution.proofs.Texts.{kind_fits}
use Rattle.resolution.proofs.text.put_query.Goals as goal

pub put_seek-requires : goal.put_seek-requires
put_seek-requires c = record { kind = kind_fits _ c.args.ask.now c.name_asked.ensures.answer c.requires.kind }

pub returns : goal.returns
unfolding query_text
returns c = record { wrote = rw (← c.ask_start.ensures.answer, ← c.name_asked.ensures.answer) (c.put_names.ensures.wrote then c.put_number.ensures.wrote then c.put.ensures.wrote then c.put_seek.ensures.wrote then c.put-2.ensures.wrote) }
