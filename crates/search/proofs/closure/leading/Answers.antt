-- `leading` meets its contract: no label leads on from a state past the block's count. Assumes
-- nothing.
use Rattle.search.proofs.Closing.{leading_below}
use Rattle.search.proofs.closure.leading.Goals as goal

pub returns : goal.returns
returns c = record { leading = leading_below _ _ c.requires.bounds (λ q h k. c.first_states.ensures.answer q h (rw c.state_count.ensures.answer k)) }
