use borrow.Author.Tests.{eq-eqb, ne_eqb}
use Rattle.graph_rows.specs.Order.{gap}
use Rattle.graph_rows.proofs.order.is_gap.Goals as goal

pub returns-then-pair-b : goal.returns-then-pair-b
unfolding gap
returns-then-pair-b c = record { answer = rw (eq-eqb _ _ c.if-pair-b.true, ← c.has_pair.ensures.answer) }

pub returns-else-pair-b : goal.returns-else-pair-b
unfolding gap
returns-else-pair-b c = record { answer = rw (ne_eqb _ _ c.if-pair-b.false) }
