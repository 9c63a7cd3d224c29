-- `gym::descriptor` has the number of each stream. Assumes nothing.
use mathlib.Core.Path.{sym, ap}
use Rattle.gym.specs.Handed.{descriptor}
use Rattle.gym.proofs.descriptor.Goals as goal

pub returns-in-Out : goal.returns-in-Out
unfolding descriptor
returns-in-Out c = record { answer = sym (ap descriptor c.in-Out.is) }

pub returns-in-Err : goal.returns-in-Err
unfolding descriptor
returns-in-Err c = record { answer = sym (ap descriptor c.in-Err.is) }
