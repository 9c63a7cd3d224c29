use Rattle.text_field.proofs.WritingLaws.{wrote_none}
use lib.ListN.{drop}
use Rattle.graph_rows.specs.Table.{content_meaning, letters_at}
use Rattle.graph_file.proofs.WriteLaws.{text_number, text_byte}
use Rattle.graph_file.specs.Line.{field_text}
use Rattle.graph_file.proofs.line_text.put_field.Goals as goal

pub returns-in-Name : goal.returns-in-Name
unfolding field_text content_meaning
returns-in-Name c = record { wrote = rw c.in-Name.is c.put_name.ensures.wrote }

pub returns-in-Label : goal.returns-in-Label
unfolding field_text content_meaning
returns-in-Label c = record { wrote = rw (c.in-Label.is, ← c.letter_of.ensures.answer, ← c.byte_of-in-Label.ensures.answer) c.put-in-Label.ensures.wrote }

pub returns-in-End : goal.returns-in-End
unfolding field_text content_meaning
returns-in-End c = record { wrote = rw (c.in-End.is, ← c.end_byte.ensures.answer) c.put-in-End.ensures.wrote }

pub returns-in-PlainKind : goal.returns-in-PlainKind
unfolding field_text content_meaning
returns-in-PlainKind c = record { wrote = rw c.in-PlainKind.is (wrote_none _) }

pub returns-in-State : goal.returns-in-State
returns-in-State c = record { wrote = rw (← text_number (letters_at c.args.labels (drop 1 c.args.table.now)) c.args.content c.args.v c.args.w c.in-State.is) c.put_number.ensures.wrote }

pub returns-in-Letter : goal.returns-in-Letter
returns-in-Letter c = record { wrote = rw (← text_byte (letters_at c.args.labels (drop 1 c.args.table.now)) c.args.content c.args.v c.args.w c.in-Letter.is, ← c.byte_of.ensures.answer) c.put.ensures.wrote }
