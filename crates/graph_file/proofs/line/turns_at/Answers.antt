use mathlib.Core.Path.{◌∙◌}
use Rattle.graph_file.proofs.ReadForm.{turns_hidden}
use Rattle.graph_file.proofs.line.turns_at.Goals as goal

pub returns-then-get_or-ne117 : goal.returns-then-get_or-ne117
returns-then-get_or-ne117 c = record { answer = turns_hidden c.args.part.now (λ e. c.if-get_or-ne117.true (c.get_or.ensures.answer ∙ e)) }
