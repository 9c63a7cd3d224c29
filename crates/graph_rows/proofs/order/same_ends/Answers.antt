use borrow.Author.Tests.{eq-eqb, ne_eqb}
use Rattle.graph_rows.specs.Order.{same_ends}
use Rattle.graph_rows.proofs.order.same_ends.Goals as goal

pub returns-then-pair-a : goal.returns-then-pair-a
unfolding same_ends
returns-then-pair-a c = record { answer = rw (eq-eqb _ _ c.if-pair-a.true) }

pub returns-else-pair-a : goal.returns-else-pair-a
unfolding same_ends
returns-else-pair-a c = record { answer = rw (ne_eqb _ _ c.if-pair-a.false) }
