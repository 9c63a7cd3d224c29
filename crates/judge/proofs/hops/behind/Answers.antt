-- `behind` meets its contract. Assumes nothing.
use mathlib.Core.Path.{refl}
use Rattle.judge.proofs.hops.behind.Goals as goal

pub returns : goal.returns
returns c = record { answer = record { free = c.taken.ensures.answer; left_is = refl; scope = refl; state = refl } }
