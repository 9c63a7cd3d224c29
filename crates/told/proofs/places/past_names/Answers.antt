-- `past_names` meets its contract: by the form. Assumes nothing.
use mathlib.Core.Path.{sym, ap, ◌∙◌}
use lib.ListN.{drop}
use Rattle.graph_table.specs.declared.sections.Form.{Form}
use Rattle.follow.specs.Text.{head_line}
use Rattle.told.specs.Apart.{after}
use Rattle.told.proofs.places.past_names.Goals as goal

pub returns-in-Old : goal.returns-in-Old
returns-in-Old c = record { answer = c.past.ensures.answer ∙ ap (λ (f : Form). after (head_line f) (drop c.args.at c.args.s.now)) (sym c.in-Old.is) }

pub returns-in-Kinds : goal.returns-in-Kinds
returns-in-Kinds c = record { answer = c.past-in-Kinds.ensures.answer ∙ ap (λ (f : Form). after (head_line f) (drop c.args.at c.args.s.now)) (sym c.in-Kinds.is) }
