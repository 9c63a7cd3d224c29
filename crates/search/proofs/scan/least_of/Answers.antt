-- `least_of` meets its contract. Assumes nothing.
use mathlib.Core.Path.{refl}
use native.Mathlib.Omega.{arith}
use lib.Count.{trailing_le}
use Rattle.search.proofs.Passing.{least_below}
use Rattle.search.proofs.scan.least_of.Goals as goal

pub overflow_cast-result : goal.overflow_cast-result
overflow_cast-result c = omega (arith, trailing_le 64 c.args.set)

pub returns : goal.returns
returns c = record { below = least_below 64 c.args.set c.requires.some (omega arith); least = refl }
