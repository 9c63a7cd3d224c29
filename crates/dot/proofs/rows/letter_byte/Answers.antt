-- `letter_byte` meets its contract. Assumes nothing.
use Prim.Native.Nat.{ℕ, ◌%◌}
use mathlib.Core.Path.{ap}
use Rattle.dot.specs.Rows.{letter_byte}
use Rattle.dot.proofs.rows.letter_byte.Goals as goal

pub returns : goal.returns
unfolding letter_byte
returns c = record { answer = ap (λ (v : ℕ). v % 256) c.get_or.ensures.answer }
