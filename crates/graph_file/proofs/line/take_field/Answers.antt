use mathlib.Core.Path.{sym, ◌∙◌}
use Rattle.graph_rows.specs.Table.{content_meaning}
use Rattle.graph_file.specs.Line.{read_field}
use Rattle.graph_file.specs.Reader.{values_of, took}
use Rattle.graph_file.proofs.LineLaws.{first_at, number_field}
use Rattle.graph_file.proofs.line.take_field.Goals as goal

pub returns-in-Letter : goal.returns-in-Letter
unfolding read_field content_meaning
returns-in-Letter c = record { answer = c.take_byte.ensures.answer ∙ sym (rw (c.in-Letter.is, first_at c.args.text.now c.args.at, ← c.get_or-x.ensures.answer, ← c.is_capital.ensures.answer)) }

pub returns-in-Label : goal.returns-in-Label
unfolding read_field content_meaning
returns-in-Label c = record { answer = c.take_byte-in-Label.ensures.answer ∙ sym (rw (c.in-Label.is, first_at c.args.text.now c.args.at, ← c.get_or-x.ensures.answer, ← c.is_capital-in-Label.ensures.answer, ← c.label_place-n.ensures.answer)) }

pub returns-in-End : goal.returns-in-End
unfolding read_field content_meaning
returns-in-End c = record { answer = c.take_end.ensures.answer ∙ sym (rw (c.in-End.is, first_at c.args.text.now c.args.at, ← c.get_or-x.ensures.answer)) }

pub returns-in-Kind : goal.returns-in-Kind
unfolding read_field content_meaning
returns-in-Kind c = record { answer = c.take_byte-in-Kind.ensures.answer ∙ sym (rw (c.in-Kind.is, first_at c.args.text.now c.args.at, ← c.get_or-x.ensures.answer, ← c.is_lower.ensures.answer)) }

pub returns-in-Name : goal.returns-in-Name
unfolding read_field content_meaning
returns-in-Name c = record { answer = c.take_name.ensures.answer ∙ sym (rw c.in-Name.is) }

pub returns-in-PlainKind : goal.returns-in-PlainKind
unfolding read_field content_meaning took values_of
returns-in-PlainKind c = record { answer = sym (rw c.in-PlainKind.is) }

pub returns-in-State : goal.returns-in-State
returns-in-State c = record { answer = c.take_number.ensures.answer ∙ number_field _ _ c.args.content c.in-State.is }
