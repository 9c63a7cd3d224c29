-- `live_table` meets its contract: a table is taken only if it is closed; the table of all places
-- is. Assumes nothing.
use native.Mathlib.Omega.{arith}
use Rattle.search.proofs.Closing.{hops_closed, all_closed}
use Rattle.search.proofs.tables.live_table.Goals as goal

pub is_closed-requires : goal.is_closed-requires
is_closed-requires c = record { leading = c.leading-full.ensures.leading; table = omega arith }

pub returns-then-is_closed : goal.returns-then-is_closed
returns-then-is_closed c = record { closed = λ goal. hops_closed _ goal _ _ _ _ c.grow.ensures.held (c.is_closed.ensures.closed c.if-is_closed.true) }

pub returns : goal.returns
returns c = record { closed = λ goal. rw c.all_places.ensures.answer (all_closed _ goal _ _ _ 64 _ (omega arith)) }
