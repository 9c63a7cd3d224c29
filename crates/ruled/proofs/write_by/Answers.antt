-- `write_by` meets its contract: 12 or 13, or the table's text with the rules. Assumes nothing.
use mathlib.Core.Path.{sym, ◌∙◌}
use Rattle.std.proofs.lemmas.Result.{err_from_is_err_and}
use Rattle.text_field.specs.Answer.{answer_of}
use Rattle.ruled.proofs.FillLaws.{text_refused, text_written}
use Rattle.ruled.proofs.write_by.Goals as goal

pub returns-in_err-r : goal.returns-in_err-r
unfolding answer_of
returns-in_err-r c =
    let e = err_from_is_err_and c.from_residual.result c.from_residual.ensures.1 in
    let told = text_refused c.args.table.now c.args.expression.now c.args.out.now _ (sym c.rules_by.ensures.answer ∙ c.in_err-r.was) in
    record { answer = rw (e.1, e.2) told.0; memory = told.1 }

pub returns : goal.returns
returns c =
    let told = text_written c.args.table.now c.args.expression.now c.args.out.now _ (sym c.rules_by.ensures.answer ∙ c.in_ok-r.was) _ _ (c.write_with.ensures.answer, c.write_with.ensures.memory) in
    record { answer = told.0; memory = told.1 }
