-- `accept` meets its contract: the text's refusals, then the table's. Assumes nothing.
use borrow.Author.Rules.{rules}
use Rattle.text_field.specs.Outcome.{and_then}
use Rattle.accepting.specs.Verdict.{meaning, accept_for}
use Rattle.accepting.proofs.texts.accept.Goals as goal

pub returns-in_err-with_graph : goal.returns-in_err-with_graph
unfolding and_then meaning accept_for
returns-in_err-with_graph c = record { answer = rw c.in_err-with_graph.ensures.refused.0 (search rules) }

pub returns : goal.returns
unfolding and_then accept_for
returns c = record { answer = rw c.in_ok-with_graph.ensures.read.1 (search rules) }
