use mathlib.Core.Path.{sym, ◌∙◌}
use Rattle.graph_file.proofs.LineLaws.{end_mark, end_letter}
use Rattle.graph_file.proofs.line.take_end.Goals as goal

pub returns-then-x-eq36 : goal.returns-then-x-eq36
returns-then-x-eq36 c = record { answer = c.take_byte.ensures.answer ∙ sym (end_mark _ _ _ c.if-x-eq36.true) }

pub returns : goal.returns
returns c = record { answer = c.take_byte-2.ensures.answer ∙ rw (c.is_capital.ensures.answer, c.label_place-n.ensures.answer) (sym (end_letter _ _ _ c.if-x-eq36.false)) }
