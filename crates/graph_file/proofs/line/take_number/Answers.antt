use mathlib.Core.Path.{sym, ap, ◌∙◌}
use lib.ListN.{drop}
use Rattle.text_field.specs.Number.{number_here}
use Rattle.graph_file.specs.Reader.{took}
use Rattle.graph_file.proofs.LineLaws.{number_took, number_none}
use Rattle.graph_file.proofs.line.take_number.Goals as goal

pub returns-in_err-v : goal.returns-in_err-v
returns-in_err-v c = record { answer = ap (λ x. took x c.args.text.now) c.from_residual.ensures ∙ number_none c.args.text.now c.args.at (number_here (drop c.args.at c.args.text.now)) (sym c.read_number.ensures.answer ∙ c.in_err-v.was) }

pub returns : goal.returns
returns c = record { answer = number_took c.args.text.now c.args.at (number_here (drop c.args.at c.args.text.now)) _ _ (sym c.read_number.ensures.answer ∙ c.in_ok-v.was) }
