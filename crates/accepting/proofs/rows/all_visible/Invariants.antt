use Prim.Native.Nat.{◌-◌}
use mathlib.Core.Path.{◌≡◌}
use lib.ListN.{length, drop}
use Rattle.board.specs.Queries.{query_on}
use Rattle.told.specs.Apart.{rows_in}
use Rattle.scope_graph.specs.Own.{all_of}
use Rattle.accepting.specs.Tests.{row_visible}
use Rattle.accepting.proofs.rows.all_visible.Given as goal

abbrev pub invariant-loop-end : goal.invariant-loop-end
invariant-loop-end l =
    all_of (row_visible l.table (query_on l.table l.q)) (rows_in (drop l.at l.lists)).0 ≡ all_of (row_visible l.table (query_on l.table l.q)) (rows_in (drop l.first l.lists)).0

abbrev pub decreases-loop-end : goal.decreases-loop-end
decreases-loop-end l = length l.lists - l.at
