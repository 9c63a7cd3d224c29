use mathlib.Core.Path.{sym, ap, ◌∙◌}
use lib.ListN.{drop}
use Rattle.text_field.specs.Name.{name_here}
use Rattle.graph_file.specs.Reader.{took}
use Rattle.graph_file.proofs.LineLaws.{name_took, name_none}
use Rattle.graph_file.proofs.line.take_name.Goals as goal

pub returns-in_err-high : goal.returns-in_err-high
returns-in_err-high c = record { answer = ap (λ x. took x c.args.text.now) c.from_residual.ensures ∙ name_none c.args.text.now c.args.at (name_here (drop c.args.at c.args.text.now)) (sym c.read_name.ensures.answer ∙ c.in_err-high.was) }

pub returns : goal.returns
returns c = record { answer = name_took c.args.text.now c.args.at (name_here (drop c.args.at c.args.text.now)) _ _ _ (sym c.read_name.ensures.answer ∙ c.in_ok-high.was) }
