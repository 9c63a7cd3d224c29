-- `away_table` meets its contract: a table is taken only if it is closed, and nothing is asked for;
-- the table of all places is. Assumes nothing.
use mathlib.Core.Path.{sym, ◌∙◌}
use mathlib.Core.Bool.{false≢true}
use native.Mathlib.Omega.{arith}
use Rattle.block.proofs.SetLaws.{places_none}
use Rattle.search.proofs.Closing.{hops_closed, all_closed, closed_all_free}
use Rattle.search.proofs.tables.away_table.Goals as goal

pub is_closed-requires : goal.is_closed-requires
is_closed-requires c = record { leading = c.leading-full.ensures.leading; table = omega arith }

pub returns-then-is_closed : goal.returns-then-is_closed
returns-then-is_closed c = record { away = closed_all_free _ _ _ _ _ (hops_closed _ _ _ _ _ _ (λ s q h. absurd (false≢true (sym (places_none 0 s q) ∙ h))) (c.is_closed.ensures.closed c.if-is_closed.true)) }

pub returns : goal.returns
returns c = record { away = closed_all_free _ _ _ _ _ (rw c.all_places.ensures.answer (all_closed _ _ _ _ _ 64 _ (omega arith))) }
