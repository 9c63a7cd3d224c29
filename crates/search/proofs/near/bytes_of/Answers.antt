-- `bytes_of` meets its contract: a number of the mask's digits is not above the mask. Assumes
-- nothing.
use Prim.Native.Nat.{◌+◌, ◌*◌, ◌/◌, ◌%◌, ◌^◌}
use native.Mathlib.Omega.{arith}
use lib.Bits.{bit_and, and_le_r}
use Rattle.search.proofs.near.bytes_of.Goals as goal

pub overflow_add-result : goal.overflow_add-result
overflow_add-result c = omega (arith, and_le_r (c.args.set % 256 * 72340172838076673) 9241421688590303745)

pub returns : goal.returns
returns c = record { small = and_le_r ((bit_and (c.args.set % 256 * 72340172838076673) 9241421688590303745 + 9187201950435737471) / 2 ^ 7) 72340172838076673 }
