use mathlib.Core.Bool.{true}
use mathlib.Core.Path.{◌≡◌}
use Rattle.block.specs.Block.{block_hops}
use Rattle.search.specs.Steps.{leads_by}
use Rattle.search.specs.Conditions.{Inside}
use Rattle.search.specs.Tables.{table_board}
use Rattle.search.proofs.straight.straight.Given as goal

abbrev pub invariant-loop-m : goal.invariant-loop-m
invariant-loop-m l =
    Inside l.m × (leads_by (table_board l.block l.goal) l.m l.by (block_hops l.block l.m.scope) ≡ true → leads_by (table_board l.block l.goal) l.initial.m l.labels (block_hops l.block l.initial.m.scope) ≡ true)

abbrev pub decreases-loop-m : goal.decreases-loop-m
decreases-loop-m l = l.m.left
