-- `path_row::writer::write_steps` meets its contract: 8, then 9, then the text. Assumes nothing.
use mathlib.Core.Path.{sym, ◌∙◌}
use native.Mathlib.Omega.{arith}
use lib.ListN.{length}
use Rattle.std.proofs.Common.{rules}
use Rattle.text_field.specs.Answer.{answer_of}
use Rattle.text_field.specs.Refusal.{number_of}
use Rattle.text_field.proofs.AnswerLaws.{answer_refused, leaves_refused, answer_short, leaves_short, answer_fits, leaves_fits}
use Rattle.text_field.proofs.WritingLaws.{written}
use Rattle.path_row.proofs.WriterLaws.{written_none, written_all}
use Rattle.path_row.proofs.writer.write_steps.Goals as goal

pub returns-then-not-is_row : goal.returns-then-not-is_row
unfolding answer_of number_of
returns-then-not-is_row c = let e = written_none _ _ c.is_row.ensures.answer c.if-not-is_row.true in record { answer = answer_refused _ _ _ e; memory = leaves_refused _ _ c.args.out.now e }

pub row_len-n-requires : goal.row_len-n-requires
row_len-n-requires c = record { row = sym c.is_row.ensures.answer ∙ c.if-not-is_row.false }

pub returns-then-out-n : goal.returns-then-out-n
unfolding answer_of number_of
returns-then-out-n c =
    let e = written_all _ _ c.is_row.ensures.answer c.if-not-is_row.false in
    record { answer = answer_short _ _ e (length c.args.out.now) (omega (arith, c.row_len-n.ensures.answer)); memory = leaves_short _ _ e c.args.out.now (omega (arith, c.row_len-n.ensures.answer)) }

pub returns-clause-answer : goal.returns-clause-answer
unfolding answer_of
returns-clause-answer c =
    let e = written_all _ _ c.is_row.ensures.answer c.if-not-is_row.false in
    answer_fits _ _ e (length c.args.out.now) c.row_len-n.result (sym c.row_len-n.ensures.answer) c.if-out-n.false

pub returns-clause-memory : goal.returns-clause-memory
returns-clause-memory c =
    let e = written_all _ _ c.is_row.ensures.answer c.if-not-is_row.false in
    let m = written _ _ _ _ c.at.ensures.starts c.put_row.ensures.wrote in
    let k = leaves_fits _ _ e c.args.out.now c.put_row.new.to.out.now c.put_row.new.to.end (omega (arith, c.row_len-n.ensures.answer)) m in
    search (rules, c.put_row.ensures.wrote.same, k)
