-- `is_end` meets its contract. Assumes nothing.
use Rattle.told.specs.Delivered.{is_end}
use mathlib.Core.Path.{◌∙◌}
use borrow.Author.Tests.{eq-eqb, ne_eqb}
use Rattle.told.proofs.pairs.is_end.Goals as goal

pub returns-then-x-eq36 : goal.returns-then-x-eq36
unfolding is_end
returns-then-x-eq36 c = record { answer = rw (eq-eqb c.args.x 36 c.if-x-eq36.true) }

pub returns-else-x-eq36 : goal.returns-else-x-eq36
unfolding is_end
returns-else-x-eq36 c = record { answer = c.is_capital.ensures.answer ∙ rw (ne_eqb c.args.x 36 c.if-x-eq36.false) }
