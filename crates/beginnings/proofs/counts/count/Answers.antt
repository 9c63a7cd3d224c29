-- `count` meets its contract: the text's refusals, then the table's. Assumes nothing.
use borrow.Author.Rules.{rules}
use Rattle.text_field.specs.Outcome.{and_then}
use Rattle.text_field.specs.Answer.{answer_of}
use Rattle.beginnings.specs.Beginnings.{count_for}
use Rattle.beginnings.proofs.counts.count.Goals as goal

pub returns-in_err-with_graph : goal.returns-in_err-with_graph
unfolding and_then answer_of count_for
returns-in_err-with_graph c = record { answer = rw c.in_err-with_graph.ensures.refused.0 (search rules) }

pub returns : goal.returns
unfolding and_then count_for
returns c = record { answer = rw c.in_ok-with_graph.ensures.read.1 (search rules) }
