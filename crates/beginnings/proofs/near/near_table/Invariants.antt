use mathlib.Core.Path.{◌≡◌}
use lib.ListN.{length}
use Rattle.beginnings.proofs.NearLaws.{CoversTo}
use Rattle.beginnings.proofs.near.near_table.Given as goal

abbrev pub invariant-loop-s : goal.invariant-loop-s
invariant-loop-s l = (length l.out ≡ 64) × CoversTo l.block l.s l.out
