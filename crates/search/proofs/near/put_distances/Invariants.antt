use mathlib.Core.Path.{◌≡◌}
use lib.ListN.{length}
use Rattle.search.proofs.near.put_distances.Given as goal

abbrev pub invariant-loop-d : goal.invariant-loop-d
invariant-loop-d l = (length l.out ≡ length l.initial.out) × (length l.held ≡ 64) × (length l.layer ≡ 64)
