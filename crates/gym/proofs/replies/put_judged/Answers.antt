-- `gym::replies::put_judged` puts the line of what `judge_text` answers. Assumes nothing.
use native.Mathlib.Omega.{arith}
use borrow.Author.Rules.{rules}
use Rattle.judge.specs.Judge.{meaning}
use Rattle.gym.specs.Said.{standing_name}
use Rattle.gym.proofs.ReplyLaws.{refused_by, judge_replied, line_replied, refused_replied}
use Rattle.gym.proofs.replies.put_judged.Goals as goal

pub returns-in-Ok : goal.returns-in-Ok
unfolding meaning
returns-in-Ok c = record {
  written = judge_replied _ _ _ c.args.text.now c.args.query c.args.row.now _ c.judge_text.ensures.answer.answer
      (line_replied standing_name (meaning c.judge_text.result.answer) _ _ _ _ (search rules) c.put_standing.ensures.written);
}

pub returns-in-Err : goal.returns-in-Err
unfolding meaning
returns-in-Err c = record {
  written = judge_replied _ _ _ c.args.text.now c.args.query c.args.row.now _ c.judge_text.ensures.answer.answer
      (refused_replied standing_name (meaning c.judge_text.result.answer) _ _ _ c.number.result (omega arith) (refused_by c.number.ensures.answer (search rules)) c.put_refused.ensures.written);
}
