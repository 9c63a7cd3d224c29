use mathlib.Core.Path.{sym, ◌∙◌}
use Rattle.std.proofs.lemmas.Result.{err_from_is_err_and}
use Rattle.text_field.specs.Answer.{fault_of}
use Rattle.text_field.specs.Refusal.{number_of}
use Rattle.graph_rows.specs.Tested.{test_outcome}
use Rattle.graph_rows.proofs.TestLaws.{table_unformed, table_refused, table_fault, table_passes}
use Rattle.graph_rows.proofs.tested.table_refusal.Goals as goal

pub returns-then-not-has_form : goal.returns-then-not-has_form
unfolding fault_of number_of
returns-then-not-has_form c = record { answer = table_unformed c.args.table.now (sym c.has_form.ensures.answer ∙ c.if-not-has_form.true) }

pub returns-in_err-counts : goal.returns-in_err-counts
unfolding fault_of test_outcome
returns-in_err-counts c =
    let e = err_from_is_err_and c.from_residual.result c.from_residual.ensures.1
    in record { answer = rw (e.1, e.2) (table_refused c.args.table.now (sym c.has_form.ensures.answer ∙ c.if-not-has_form.false) (number_of c.in_err-counts.field-0.0) (rw c.form_in.ensures.answer at c.in_err-counts.ensures.answer)) }

pub returns-then-order_fault : goal.returns-then-order_fault
unfolding fault_of number_of
returns-then-order_fault c = record { answer = table_fault c.args.table.now (sym c.has_form.ensures.answer ∙ c.if-not-has_form.false) c.in_ok-counts.field-0 (rw c.form_in.ensures.answer at c.in_ok-counts.ensures.answer) (sym c.order_fault.ensures.answer ∙ c.if-order_fault.true) }

pub returns : goal.returns
unfolding fault_of
returns c = record { answer = table_passes c.args.table.now (sym c.has_form.ensures.answer ∙ c.if-not-has_form.false) c.in_ok-counts.field-0 (rw c.form_in.ensures.answer at c.in_ok-counts.ensures.answer) (sym c.order_fault.ensures.answer ∙ c.if-order_fault.false) }
