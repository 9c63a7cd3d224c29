-- `as_slice` meets its contract: a count past the array's end takes all of it. Assumes nothing.
use native.Mathlib.Omega.{arith}
use Rattle.path_row.specs.Form.{steps_at_hand}
use Rattle.path_row.proofs.TakenLaws.{take_least}
use Rattle.path_row.proofs.taken.Steps.as_slice.Goals as goal

pub returns : goal.returns
unfolding steps_at_hand
returns c = record { answer = rw c.min.ensures (take_least c.args.self.now.count 63 c.args.self.now.steps (omega arith)) }
