-- `added` meets its contract. Assumes nothing.
use Prim.Native.Nat.{◌+◌, ◌≤◌}
use mathlib.Core.Path.{sym}
use native.Mathlib.Omega.{arith}
use Rattle.beginnings.specs.Beginnings.{MOST}
use Rattle.beginnings.proofs.Tells.{capped_few, capped_many}
use Rattle.beginnings.proofs.nodes.added.Goals as goal

pub returns-then-sum-lt-MOST : goal.returns-then-sum-lt-MOST
returns-then-sum-lt-MOST c = record { sum = sym (capped_few _ (omega (arith, c.if-sum-lt-MOST.true))) }

pub returns : goal.returns
returns c = record { sum = let more : MOST ≤ c.args.so + c.args.more = omega (arith, c.if-sum-lt-MOST.false) in sym (capped_many _ more) }
