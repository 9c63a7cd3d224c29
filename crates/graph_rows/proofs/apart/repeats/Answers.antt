use borrow.Author.Tests.{lt-ltb, le-ltb}
use Rattle.graph_rows.specs.LookBack.{quick_repeats}
use Rattle.graph_rows.proofs.apart.repeats.Goals as goal

pub returns-then-value_at-gt0 : goal.returns-then-value_at-gt0
unfolding quick_repeats
returns-then-value_at-gt0 c = record { answer = rw (← c.value_at.ensures.answer, lt-ltb _ _ c.if-value_at-gt0.true) c.stands_above.ensures.answer }

pub returns-else-value_at-gt0 : goal.returns-else-value_at-gt0
unfolding quick_repeats
returns-else-value_at-gt0 c = record { answer = rw (← c.value_at.ensures.answer, le-ltb _ _ c.if-value_at-gt0.false) }
