-- `gym::replies::put_compared` puts the line of what `compare_text` answers. Assumes nothing.
use native.Mathlib.Omega.{arith}
use borrow.Author.Rules.{rules}
use Rattle.comparison.specs.Compare.{meaning}
use Rattle.gym.specs.Said.{comparison_name}
use Rattle.gym.proofs.ReplyLaws.{refused_by, compare_replied, line_replied, refused_replied}
use Rattle.gym.proofs.replies.put_compared.Goals as goal

pub returns-in-Ok : goal.returns-in-Ok
unfolding meaning
returns-in-Ok c = record {
  written = compare_replied _ _ _ c.args.text.now c.args.a.now c.args.b.now _ c.compare_text.ensures.answer.answer
      (line_replied comparison_name (meaning c.compare_text.result.answer) _ _ _ _ (search rules) c.put_comparison.ensures.written);
}

pub returns-in-Err : goal.returns-in-Err
unfolding meaning
returns-in-Err c = record {
  written = compare_replied _ _ _ c.args.text.now c.args.a.now c.args.b.now _ c.compare_text.ensures.answer.answer
      (refused_replied comparison_name (meaning c.compare_text.result.answer) _ _ _ c.number.result (omega arith) (refused_by c.number.ensures.answer (search rules)) c.put_refused.ensures.written);
}
