-- `is_goal` meets its contract. Assumes nothing.
use mathlib.Core.Path.{sym, ◌∙◌}
use Rattle.block.specs.Sets.{places_of}
use Rattle.block.specs.Block.{accept_set}
use Rattle.block.proofs.SetLaws.{places_no_scope}
use Rattle.search.proofs.exists.is_goal.Goals as goal

pub returns-then-has : goal.returns-then-has
unfolding places_of
returns-then-has c = record { answer = c.has_state.ensures.answer ∙ rw (c.accept_set.ensures.answer, sym c.has.ensures.answer ∙ c.if-has.true) }

pub returns-else-has : goal.returns-else-has
returns-else-has c = record { answer = c.if-has.false ∙ sym (places_no_scope c.args.goal (accept_set c.args.block.now) c.args.s c.args.q (sym c.has.ensures.answer ∙ c.if-has.false)) }
