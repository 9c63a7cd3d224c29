use Prim.Native.Nat.{ℕ, ◌%◌}
use mathlib.Core.Path.{ap}
use lib.ListN.{length-replicate}
use Rattle.board.specs.Tables.{letter_of}
use Rattle.board.proofs.Fill.{filled_none, filled_next, filled_all}
use native.Mathlib.Omega.{arith}
use Rattle.board.proofs.letters.letter_table.Goals as goal

pub loop-i-init : goal.loop-i-init
loop-i-init c = filled_none _ 8 _ (length-replicate {A = ℕ} 8 0)

pub loop-i-preserved : goal.loop-i-preserved
unfolding letter_of
loop-i-preserved c = filled_next _ _ _ _ _ c.loop-i.invariant (omega arith) (ap (λ v. v % 256) c.value_of.ensures.answer)

pub returns : goal.returns
returns c = record { answer = filled_all _ _ _ _ c.loop-i.invariant c.loop-i-test.false }
