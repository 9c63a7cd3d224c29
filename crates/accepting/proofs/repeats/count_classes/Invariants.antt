use Prim.Native.Nat.{◌-◌}
use mathlib.Core.Path.{◌≡◌}
use lib.ListN.{length, drop}
use Rattle.told.specs.Apart.{rows_in}
use Rattle.accepting.specs.Classes.{class_counts}
use Rattle.accepting.proofs.repeats.count_classes.Given as goal

abbrev pub invariant-loop-end : goal.invariant-loop-end
invariant-loop-end l =
    class_counts l.counts (rows_in (drop l.at l.lists)).0 ≡ class_counts l.initial.counts (rows_in (drop l.first l.lists)).0

abbrev pub decreases-loop-end : goal.decreases-loop-end
decreases-loop-end l = length l.lists - l.at
