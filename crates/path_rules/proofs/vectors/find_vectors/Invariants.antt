use Rattle.path_rules.specs.Vectors.{first_found, turns}
use lib.ListN.{length}
use mathlib.Core.Path.{◌≡◌}
use Prim.Native.Nat.{◌≤◌}
use Rattle.path_rules.proofs.vectors.find_vectors.Given as goal

abbrev pub invariant-loop-k : goal.invariant-loop-k
invariant-loop-k l = record { found : l.found ≡ turns l.positions.after l.positions.labels l.k first_found; held : l.found.count ≤ length l.found.cells }
