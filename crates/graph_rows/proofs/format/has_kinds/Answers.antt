use mathlib.Core.Path.{◌∙◌}
use borrow.Author.Tests.{eq-eqb}
use Rattle.graph_rows.proofs.ColumnLaws.{kinds_first, kinds_other}
use Rattle.graph_rows.proofs.format.has_kinds.Goals as goal

pub returns-then-form-eq-KIND_FORM : goal.returns-then-form-eq-KIND_FORM
returns-then-form-eq-KIND_FORM c = record { answer = eq-eqb _ _ c.if-form-eq-KIND_FORM.true ∙ kinds_first _ c.if-form-eq-KIND_FORM.true }

pub returns-else-form-eq-KIND_FORM : goal.returns-else-form-eq-KIND_FORM
returns-else-form-eq-KIND_FORM c = record { answer = kinds_other _ c.if-form-eq-KIND_FORM.false }
