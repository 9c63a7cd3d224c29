-- `judge_text` meets its contract: the text's refusals, then the table's. Assumes nothing.
use Rattle.std.proofs.Common.{rules}
use Rattle.text_field.specs.Outcome.{and_then}
use Rattle.judge.specs.Judge.{judge_answer}
use Rattle.judge.proofs.LentLaws.{hands_none}
use Rattle.judge.proofs.Calls.{text_refused}
use Rattle.judge.proofs.text.judge_text.Goals as goal

pub returns-in-Ok : goal.returns-in-Ok
unfolding and_then judge_answer
returns-in-Ok c = record { answer = rw c.in-Ok.ensures.read.1 (search rules) }

pub returns-in-Err : goal.returns-in-Err
returns-in-Err c = record { answer = hands_none (judge_answer c.args.text.now c.args.query c.args.row.now c.args.room) c.args.row.now _ c.refused_row.result (c.refused_row.ensures.answer, c.refused_row.ensures.steps) (text_refused c.args.text.now c.args.query c.args.row.now c.args.room _ c.in-Err.ensures.refused.0) }
