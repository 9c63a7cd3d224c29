-- `letter_bytes` meets its contract: the table is filled letter by letter. Assumes nothing.
use Prim.Native.Nat.{ℕ, ◌%◌}
use mathlib.Core.Path.{◌≡◌, ap}
use lib.ListN.{length-replicate}
use native.Mathlib.Omega.{arith}
use Rattle.path_rules.proofs.Fill.{filled_none, filled_next}
use Rattle.ruled.specs.Letters.{letter_byte}
use Rattle.ruled.proofs.letters.letter_bytes.Goals as goal

pub loop-i-init : goal.loop-i-init
loop-i-init c = filled_none _ 8 _ (length-replicate {A = ℕ} 8 0)

pub loop-i-preserved : goal.loop-i-preserved
unfolding letter_byte
loop-i-preserved c = filled_next _ _ _ _ _ c.loop-i.invariant (omega arith) (ap (λ v. v % 256) c.first_value.ensures.answer)

pub returns : goal.returns
returns c = let e : c.loop-i.i ≡ c.args.n = omega arith in record { size = c.loop-i.invariant.size; letters = rw e at c.loop-i.invariant.front }
