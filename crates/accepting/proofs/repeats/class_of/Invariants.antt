use Prim.Native.Nat.{◌<◌}
use mathlib.Core.Path.{◌≡◌}
use lib.ListN.{drop}
use Rattle.accepting.specs.Classes.{class_from, class_of}
use Rattle.accepting.proofs.repeats.class_of.Given as goal

abbrev pub invariant-loop-x : goal.invariant-loop-x
invariant-loop-x l = (class_from l.class (drop l.x-index l.row) ≡ class_of l.row) × (l.class < 65536)
