-- `taken` meets its contract. Assumes nothing.
use Rattle.block.proofs.SetLaws.{scopes_taken}
use native.Mathlib.Omega.{arith}
use Rattle.block.proofs.sets.taken.Goals as goal

pub returns : goal.returns
returns c = record { answer = λ u. scopes_taken _ _ u (omega arith) }
