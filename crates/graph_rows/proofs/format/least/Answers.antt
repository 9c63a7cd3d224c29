use mathlib.Core.Path.{◌∙◌}
use Rattle.graph_rows.proofs.FormatLaws.{least_at}
use Rattle.graph_rows.proofs.format.least.Goals as goal

pub returns : goal.returns
returns c = record { answer = c.get_or.ensures.answer ∙ least_at c.args.k }
