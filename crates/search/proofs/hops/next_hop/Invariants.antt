use Prim.Native.Nat.{◌≤◌}
use mathlib.Core.Path.{◌≡◌}
use Rattle.search.specs.Steps.{next_hop}
use Rattle.search.proofs.hops.next_hop.Given as goal

abbrev pub invariant-loop-i : goal.invariant-loop-i
invariant-loop-i l =
    (next_hop l.block l.table l.n l.labels l.p ≡ next_hop l.block l.table l.n l.labels l.i) × (l.end ≤ l.p → l.i ≡ l.p)
