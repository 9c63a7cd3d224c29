-- `next_state` meets its contract. Assumes nothing.
use Rattle.block.proofs.BlockLaws.{next_read}
use native.Mathlib.Omega.{arith}
use Rattle.block.proofs.next_state.Goals as goal

pub returns : goal.returns
returns c = record {
  answer = let s = c.args in
      next_read s.block.now s.q s.l (omega arith) (omega arith) (omega arith);
}
