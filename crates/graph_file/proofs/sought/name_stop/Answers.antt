use mathlib.Core.Path.{sym, ◌∙◌}
use Rattle.graph_file.proofs.SoughtLaws.{no_name_there, name_there}
use Rattle.graph_file.proofs.sought.name_stop.Goals as goal

pub returns-in_default : goal.returns-in_default
returns-in_default c = record { answer = no_name_there c.args.text.now c.args.at (sym c.in_default.is ∙ c.read_name.ensures.answer) }

pub returns : goal.returns
returns c = record { answer = name_there c.args.text.now c.args.at _ _ _ (sym c.in-Some.is ∙ c.read_name.ensures.answer) }
