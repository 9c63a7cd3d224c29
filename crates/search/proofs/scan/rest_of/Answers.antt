-- `rest_of` meets its contract. Assumes nothing.
use Prim.Native.Nat.{◌-◌}
use native.Mathlib.Omega.{arith}
use lib.Bits.{and_le_r}
use Rattle.search.proofs.Passing.{rest_scopes}
use Rattle.search.proofs.scan.rest_of.Goals as goal

pub returns : goal.returns
returns c = record { less = omega (arith, and_le_r c.args.set (c.args.set - 1)); rest = λ u. rest_scopes c.args.set u c.requires.some (omega arith) }
