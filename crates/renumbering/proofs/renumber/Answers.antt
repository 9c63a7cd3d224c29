-- `renumber` meets its contract: the text is refused, or its table is written. Assumes nothing.
use borrow.Author.Rules.{rules}
use Rattle.text_field.specs.Outcome.{and_then}
use Rattle.text_field.specs.Answer.{leaves}
use Rattle.renumbering.specs.Renumbering.{renumber_of, room_for, sizes_of, file_of, list_of}
use Rattle.renumbering.proofs.Answers.{numbered_err}
use Rattle.renumbering.proofs.renumber.Goals as goal

pub returns-in_err-with_graph-clause-answer : goal.returns-in_err-with_graph-clause-answer
unfolding and_then renumber_of room_for sizes_of
returns-in_err-with_graph-clause-answer c = rw c.in_err-with_graph.ensures.refused.0 (numbered_err _ c.in_err-with_graph.field-0.0 (search rules))

pub returns-in_err-with_graph-clause-file : goal.returns-in_err-with_graph-clause-file
unfolding and_then leaves renumber_of room_for file_of
returns-in_err-with_graph-clause-file c = rw c.in_err-with_graph.ensures.refused.0 (search rules)

pub returns-in_err-with_graph-clause-list : goal.returns-in_err-with_graph-clause-list
unfolding and_then leaves renumber_of room_for list_of
returns-in_err-with_graph-clause-list c = rw c.in_err-with_graph.ensures.refused.0 (search rules)

pub returns-clause-answer : goal.returns-clause-answer
unfolding and_then renumber_of
returns-clause-answer c = rw c.in_ok-with_graph.ensures.read.1 (search rules)

pub returns-clause-file : goal.returns-clause-file
unfolding and_then renumber_of
returns-clause-file c = rw c.in_ok-with_graph.ensures.read.1 (search rules)

pub returns-clause-list : goal.returns-clause-list
unfolding and_then renumber_of
returns-clause-list c = rw c.in_ok-with_graph.ensures.read.1 (search rules)
