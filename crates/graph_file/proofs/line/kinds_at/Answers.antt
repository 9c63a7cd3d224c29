use mathlib.Core.Path.{sym, ap, ◌∙◌}
use Rattle.graph_rows.specs.Format.{has_turns}
use Rattle.graph_rows.specs.Tested.{form_in}
use Rattle.graph_file.proofs.ReadForm.{with_turns, without_turns}
use Rattle.graph_file.proofs.line.kinds_at.Goals as goal

pub returns-then-has_turns : goal.returns-then-has_turns
returns-then-has_turns c = record { answer = with_turns (form_in c.args.table.now) _ (ap has_turns (sym c.form_in.ensures.answer) ∙ sym c.has_turns.ensures.answer ∙ c.if-has_turns.true) }

pub returns : goal.returns
returns c = record { answer = c.form_at.ensures.answer ∙ without_turns (form_in c.args.table.now) _ (ap has_turns (sym c.form_in.ensures.answer) ∙ sym c.has_turns.ensures.answer ∙ c.if-has_turns.false) }
