-- `compare_text` meets its contract: the text's refusals, then the rows'. Assumes nothing.
use Rattle.std.proofs.Common.{rules}
use Rattle.text_field.specs.Outcome.{and_then}
use Rattle.comparison.specs.Compare.{compare_answer}
use Rattle.comparison.proofs.LentLaws.{hands_none}
use Rattle.comparison.proofs.TextLaws.{text_refused}
use Rattle.comparison.proofs.text.compare_text.Goals as goal

pub returns-in-Ok : goal.returns-in-Ok
unfolding and_then compare_answer
returns-in-Ok c = record { answer = rw c.in-Ok.ensures.read.1 (search rules) }

pub returns-in-Err : goal.returns-in-Err
returns-in-Err c = record { answer = hands_none (compare_answer c.args.text.now c.args.a.now c.args.b.now c.args.n c.args.m) c.args.a.now c.args.b.now _ c.refused_rows.result (c.refused_rows.ensures.answer, (c.refused_rows.ensures.first, c.refused_rows.ensures.second)) (text_refused c.args.text.now c.args.a.now c.args.b.now c.args.n c.args.m _ c.in-Err.ensures.refused.0) }
