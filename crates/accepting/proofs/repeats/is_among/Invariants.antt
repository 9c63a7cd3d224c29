use Prim.Native.Nat.{◌-◌}
use mathlib.Core.Path.{◌≡◌}
use lib.ListN.{length, drop}
use Rattle.told.specs.Apart.{rows_in}
use Rattle.accepting.specs.Steps.{text_among}
use Rattle.accepting.proofs.repeats.is_among.Given as goal

abbrev pub invariant-loop-end : goal.invariant-loop-end
invariant-loop-end l = text_among l.row (rows_in (drop l.at l.lists)).0 ≡ text_among l.row (rows_in (drop l.from l.lists)).0

abbrev pub decreases-loop-end : goal.decreases-loop-end
decreases-loop-end l = length l.lists - l.at
