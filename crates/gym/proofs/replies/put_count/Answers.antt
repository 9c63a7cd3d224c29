-- `gym::replies::put_count` puts the line of what `count` answers. Assumes nothing.
use native.Mathlib.Omega.{arith}
use Rattle.text_field.specs.Answer.{answer_of}
use Rattle.text_field.specs.Number.{number_text}
use Rattle.text_field.proofs.AnswerLaws.{answer_ok, answer_err}
use Rattle.gym.proofs.ReplyLaws.{refused_by, count_replied, line_replied, short_replied, refused_replied, number_short}
use Rattle.gym.proofs.replies.put_count.Goals as goal

pub returns-in-Ok : goal.returns-in-Ok
returns-in-Ok c = record {
  written = count_replied _ _ _ c.args.text.now c.args.query _ c.count.ensures.answer
      (line_replied number_text (answer_of c.count.result) _ _ _ c.in-Ok.n (answer_ok c.count.result c.in-Ok.n c.in-Ok.is)
      (short_replied (number_text c.in-Ok.n) _ _ _ (number_short c.in-Ok.n (omega arith)) c.put_counted.ensures.written));
}

pub returns-in-Err : goal.returns-in-Err
returns-in-Err c = record {
  written = count_replied _ _ _ c.args.text.now c.args.query _ c.count.ensures.answer
      (refused_replied number_text (answer_of c.count.result) _ _ _ c.number.result (omega arith) (refused_by c.number.ensures.answer (answer_err c.count.result c.in-Err.r c.in-Err.is)) c.put_refused.ensures.written);
}
