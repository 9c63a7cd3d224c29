use mathlib.Core.Path.{◌∙◌}
use Rattle.graph_file.proofs.WriteLaws.{end_mark, end_letter}
use Rattle.graph_file.proofs.line_text.end_byte.Goals as goal

pub returns-then-v-eq0 : goal.returns-then-v-eq0
returns-then-v-eq0 c = record { answer = end_mark _ _ c.if-v-eq0.true }

pub returns : goal.returns
returns c = record { answer = c.byte_of.ensures.answer ∙ rw c.letter_of.ensures.answer (end_letter _ _ c.if-v-eq0.false) }
