use mathlib.Core.Path.{◌≡◌}
use lib.ListN.{length}
use Rattle.search.specs.Steps.{Kept}
use Rattle.search.proofs.grow.spread_from.Given as goal

abbrev pub invariant-loop-p : goal.invariant-loop-p
invariant-loop-p l = (length l.table ≡ length l.initial.table) × Kept l.initial.table l.table
