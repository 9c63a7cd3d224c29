use Rattle.path_rules.specs.Reading.{fresh, read_all}
use lib.ListN.{drop}
use mathlib.Core.Path.{◌≡◌}
use Prim.Native.Nat.{◌≤◌}
use Rattle.path_rules.proofs.reading.read.Given as goal

abbrev pub invariant-loop-b : goal.invariant-loop-b
invariant-loop-b l = record { rest : read_all l.labels l.s (drop l.b-index l.text) ≡ read_all l.labels fresh l.text; depth : l.s.depth ≤ 64 }
