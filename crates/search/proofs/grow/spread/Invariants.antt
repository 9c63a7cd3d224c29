use mathlib.Core.Path.{◌≡◌}
use lib.ListN.{length}
use Rattle.search.specs.Steps.{Kept}
use Rattle.search.proofs.grow.spread.Given as goal

abbrev pub invariant-loop : goal.invariant-loop
invariant-loop l = (length l.table ≡ length l.initial.table) × Kept l.initial.table l.table
