-- `gym::second::room` has its length. It is told by a law, since a search would count the zeros.
-- Assumes nothing.
use mathlib.Core.Path.{sym}
use Prim.Native.Nat.{ℕ}
use lib.ListN.{length-replicate}
use Rattle.gym.proofs.second.room.Goals as goal

pub returns : goal.returns
returns c = record { length = sym (length-replicate {A = ℕ} 1048576 0) }
