-- `goal_table` meets its contract: a table is taken only if it is closed, with no scope that cuts;
-- the table of all places is. Assumes nothing.
use native.Mathlib.Omega.{arith}
use Rattle.search.proofs.Closing.{hops_closed, all_closed, closed_any_way}
use Rattle.search.proofs.tables.goal_table.Goals as goal

pub is_closed-requires : goal.is_closed-requires
is_closed-requires c = record { leading = c.leading-full.ensures.leading; table = omega arith }

pub returns-then-is_closed : goal.returns-then-is_closed
returns-then-is_closed c = record { live = closed_any_way _ _ _ _ _ (hops_closed _ _ _ _ _ _ (λ s q h. c.grow.ensures.held s q (rw c.accept_set.ensures.answer h)) (c.is_closed.ensures.closed c.if-is_closed.true)) }

pub returns : goal.returns
returns c = record { live = closed_any_way _ _ _ _ _ (rw c.all_places.ensures.answer (all_closed _ _ _ _ _ 192 _ (omega arith))) }
