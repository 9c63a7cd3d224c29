-- `read` meets its contract: the text is refused, or its cells are handed out. Assumes nothing.
use borrow.Author.Rules.{rules}
use Rattle.text_field.specs.Answer.{answer, leaves, answer_of}
use Rattle.text_field.specs.Outcome.{and_then}
use Rattle.graph_file.proofs.tables.read.Goals as goal

pub returns-in_err-with_graph-clause-answer : goal.returns-in_err-with_graph-clause-answer
unfolding and_then answer_of answer
returns-in_err-with_graph-clause-answer c = rw c.in_err-with_graph.ensures.refused.0 (search rules)

pub returns-in_err-with_graph-clause-memory : goal.returns-in_err-with_graph-clause-memory
unfolding leaves
returns-in_err-with_graph-clause-memory c = rw c.in_err-with_graph.ensures.refused.0 (search rules)

pub returns-clause-answer : goal.returns-clause-answer
returns-clause-answer c = rw c.in_ok-with_graph.ensures.read.1 (search rules)

pub returns-clause-memory : goal.returns-clause-memory
returns-clause-memory c = rw c.in_ok-with_graph.ensures.read.1 (search rules)
