use borrow.Author.Tests.{eqb-true, eqb-false}
use mathlib.Core.Path.{sym, ap, ◌∙◌}
use mathlib.Core.Bool.{not}
use Rattle.graph_rows.specs.Tested.{form_in}
use Rattle.graph_rows.proofs.TestLaws.{no_form, form_cell}
use Rattle.graph_rows.proofs.tested.has_form.Goals as goal

pub returns-then-not-is_empty : goal.returns-then-not-is_empty
unfolding form_in
returns-then-not-is_empty c = record { answer = rw c.form_in.ensures.answer (form_cell _ (eqb-false _ _ (sym c.is_empty.ensures ∙ c.if-not-is_empty.true))) }

pub returns-else-not-is_empty : goal.returns-else-not-is_empty
returns-else-not-is_empty c = record { answer = ap not c.if-not-is_empty.false ∙ no_form _ (eqb-true _ _ (sym c.is_empty.ensures ∙ c.if-not-is_empty.false)) }
