-- `path_row::writer::write_row` meets its contract: a mark, a start or a number of steps past its
-- limit is refused, and the other rows are written. Assumes nothing.
use mathlib.Core.Path.{◌≡◌, sym, ap, ◌∙◌}
use native.Mathlib.Omega.{arith}
use lib.ListN.{length}
use Rattle.text_field.specs.Answer.{answer_of}
use Rattle.text_field.specs.Outcome.{refused}
use Rattle.text_field.specs.Refusal.{number_of}
use Rattle.text_field.proofs.AnswerLaws.{answer_refused, leaves_refused}
use Rattle.path_row.specs.Form.{row_written, row_made}
use Rattle.path_row.proofs.TakenLaws.{taken_length, at_hand_taken}
use Rattle.path_row.proofs.WriterLaws.{made_length, mark_written, start_written, many_written}
use Rattle.path_row.proofs.writer.write_row.Goals.{then-mark-gt-MOST_MARK-via-then-mark-gt-MOST_MARK, then-mark-gt-MOST_MARK-via-else-mark-gt-MOST_MARK+then-start-gt-MOST_SCOPE, then-mark-gt-MOST_MARK-via-else-mark-gt-MOST_MARK+else-start-gt-MOST_SCOPE+then-count-gt-MOST_STEPS}
use Rattle.path_row.proofs.writer.write_row.Goals as goal

pub returns-then-mark-gt-MOST_MARK : goal.returns-then-mark-gt-MOST_MARK
unfolding answer_of number_of
returns-then-mark-gt-MOST_MARK c =
    let e : row_written c.args.mark c.args.start c.args.count c.args.letters.now c.args.scopes.now ≡ refused 8 = elim c.then-mark-gt-MOST_MARK.branch [
      | then-mark-gt-MOST_MARK-via-then-mark-gt-MOST_MARK w ↦ mark_written c.args.mark c.args.start c.args.count c.args.letters.now c.args.scopes.now w.if-mark-gt-MOST_MARK.true
      | then-mark-gt-MOST_MARK-via-else-mark-gt-MOST_MARK+then-start-gt-MOST_SCOPE w ↦ start_written c.args.mark c.args.start c.args.count c.args.letters.now c.args.scopes.now w.if-start-gt-MOST_SCOPE.true
      | then-mark-gt-MOST_MARK-via-else-mark-gt-MOST_MARK+else-start-gt-MOST_SCOPE+then-count-gt-MOST_STEPS w ↦ many_written c.args.mark c.args.start c.args.count c.args.letters.now c.args.scopes.now w.if-count-gt-MOST_STEPS.true
    ] in
    record { answer = answer_refused _ _ _ e; memory = leaves_refused _ _ c.args.out.now e }

pub returns : goal.returns
unfolding row_written row_made
returns c =
    let made = c.steps_made-steps.ensures.answer in
    let counted = sym (taken_length c.steps_made-steps.result) ∙ ap length made ∙ made_length c.args.count c.args.letters.now c.args.scopes.now in
    let e = c.as_slice.ensures.answer ∙ at_hand_taken c.steps_made-steps.result (omega arith) ∙ made in
    record { answer = rw e at c.write_steps.ensures.answer; memory = rw e at c.write_steps.ensures.memory }
