use mathlib.Core.Path.{◌∙◌}
use Rattle.graph_rows.proofs.FormatLaws.{most_at}
use Rattle.graph_rows.proofs.format.most.Goals as goal

pub returns : goal.returns
returns c = record { answer = c.get_or.ensures.answer ∙ most_at c.args.k }
