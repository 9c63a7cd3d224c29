use borrow.Author.Tests.{eq-eqb, ne_eqb}
use Rattle.graph_rows.specs.Admission.{same_source}
use Rattle.graph_rows.proofs.apart.same_source.Goals as goal

pub returns-then-value_at : goal.returns-then-value_at
unfolding same_source
returns-then-value_at c = record { answer = rw (← c.value_at.ensures.answer, ← c.value_at-2.ensures.answer, eq-eqb _ _ c.if-value_at.true, ← c.value_at-then-value_at.ensures.answer, ← c.value_at-then-value_at-2.ensures.answer) }

pub returns-else-value_at : goal.returns-else-value_at
unfolding same_source
returns-else-value_at c = record { answer = rw (← c.value_at.ensures.answer, ← c.value_at-2.ensures.answer, ne_eqb _ _ c.if-value_at.false) }
