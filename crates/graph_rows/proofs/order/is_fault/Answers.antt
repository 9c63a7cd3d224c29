use borrow.Author.Tests.{eq-eqb, ne_eqb}
use Rattle.graph_rows.specs.Order.{pair_fault}
use Rattle.graph_rows.proofs.order.is_fault.Goals as goal

pub returns-then-a-b : goal.returns-then-a-b
unfolding pair_fault
returns-then-a-b c = record { answer = rw (eq-eqb _ _ c.if-a-b.true) }

pub returns-else-a-b : goal.returns-else-a-b
unfolding pair_fault
returns-else-a-b c = record { answer = rw (ne_eqb _ _ c.if-a-b.false) c.has_gap.ensures.answer }
