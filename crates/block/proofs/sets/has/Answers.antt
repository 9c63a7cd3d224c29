-- `has` meets its contract. Assumes nothing.
use mathlib.Core.Path.{sym}
use Rattle.block.specs.Sets.{has_bit}
use Rattle.block.proofs.SetLaws.{scope_in}
use native.Mathlib.Omega.{arith}
use Rattle.block.proofs.sets.has.Goals as goal

pub returns : goal.returns
unfolding has_bit
returns c = record { answer = sym (scope_in _ _ (omega arith)) }
