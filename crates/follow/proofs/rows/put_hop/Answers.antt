-- `put_hop` meets its contract: the letter, then the scope. Assumes nothing.
use native.Mathlib.Omega.{arith}
use Prim.Native.Nat.{ℕ, ◌%◌}
use mathlib.Core.Path.{ap}
use Rattle.follow.proofs.RowLaws.{hops_one, letter_is}
use Rattle.follow.proofs.rows.put_hop.Goals as goal

pub returns : goal.returns
returns c = record {
  wrote = rw (hops_one _ _ _ _ (letter_is _ _ _ (omega arith) (rw c.edge_label.ensures.answer at (ap (λ (z : ℕ). z % 256) c.letter-shown.ensures.answer))) c.edge_scope.ensures.answer) c.put_step.ensures.wrote;
}
