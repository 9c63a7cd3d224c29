-- `single` meets its contract. Assumes nothing.
use Rattle.block.proofs.SetLaws.{scopes_single}
use native.Mathlib.Omega.{arith}
use Rattle.block.proofs.sets.single.Goals as goal

pub returns : goal.returns
returns c = record { answer = λ u. scopes_single _ u (omega arith) }
