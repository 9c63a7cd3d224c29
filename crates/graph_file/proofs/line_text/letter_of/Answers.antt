use mathlib.Core.Path.{◌∙◌}
use Rattle.graph_file.proofs.WriteLaws.{letter_at, letter_past}
use Rattle.graph_file.proofs.line_text.letter_of.Goals as goal

pub returns-then-v-labels : goal.returns-then-v-labels
returns-then-v-labels c = record { answer = c.get_or.ensures.answer ∙ letter_at _ 1 _ c.args.table.now c.if-v-labels.true }

pub returns : goal.returns
returns c = record { answer = letter_past _ _ _ c.if-v-labels.false }
