use Prim.Native.Nat.{◌-◌}
use mathlib.Core.Path.{◌≡◌}
use lib.ListN.{length, drop}
use Rattle.told.specs.Apart.{rows_in}
use Rattle.accepting.specs.Tests.{none_twice}
use Rattle.accepting.specs.Classes.{Tells}
use Rattle.accepting.proofs.repeats.none_again.Given as goal

abbrev pub invariant-loop-end : goal.invariant-loop-end
invariant-loop-end l =
    (none_twice (rows_in (drop l.at l.lists)).0 ≡ none_twice (rows_in (drop l.first l.lists)).0) × Tells l.counts (rows_in (drop l.at l.lists)).0

abbrev pub decreases-loop-end : goal.decreases-loop-end
decreases-loop-end l = length l.lists - l.at
