use mathlib.Core.Path.{sym, ◌∙◌}
use native.Mathlib.Omega.{arith}
use borrow.Author.Rules.{rules}
use Rattle.text_field.specs.Answer.{fault_of, answer_of}
use Rattle.text_field.specs.Refusal.{number_of}
use Rattle.text_field.proofs.AnswerLaws.{answer_err}
use Rattle.text_field.proofs.RefusalLaws.{number_positive}
use Rattle.graph_file.proofs.WriteText.{told_refused, told_long}
use Rattle.graph_file.proofs.writer.write.Goals as goal

pub returns-in_err-table_refusal : goal.returns-in_err-table_refusal
unfolding fault_of
returns-in_err-table_refusal c =
    let told = told_refused c.args.table.now c.args.out.now (number_of c.in_err-table_refusal.field-0.0) c.in_err-table_refusal.ensures.answer (λ e. omega (arith, number_positive c.in_err-table_refusal.field-0.0))
    in record { answer = answer_err _ c.in_err-table_refusal.field-0.0 (search rules) ∙ told.0; memory = told.1 }

pub put_text-requires : goal.put_text-requires
unfolding fault_of
put_text-requires c = record { graph = sym c.in_ok-table_refusal.ensures.answer }

pub put_measured-requires-clause-graph : goal.put_measured-requires-clause-graph
unfolding fault_of
put_measured-requires-clause-graph c = sym c.in_ok-table_refusal.ensures.answer

pub returns-then-out-ge-TEXT_BYTES : goal.returns-then-out-ge-TEXT_BYTES
unfolding fault_of answer_of
returns-then-out-ge-TEXT_BYTES c =
    let told = told_long c.args.table.now (sym c.in_ok-table_refusal.ensures.answer) c.args.out.now c.put_text.new.out c.put_text.result (omega (arith, c.if-out-ge-TEXT_BYTES.true)) c.put_text.ensures.written
    in record { answer = told.0; memory = told.1 }
