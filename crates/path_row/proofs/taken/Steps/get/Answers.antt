-- `get` meets its contract: past the steps at hand stands a step of zeros. Assumes nothing.
use mathlib.Core.Path.{◌∙◌}
use Rattle.path_row.proofs.TakenLaws.{at_hand_get}
use Rattle.path_row.proofs.taken.Steps.get.Goals as goal

pub returns : goal.returns
returns c = record { answer = rw c.as_slice.ensures.answer at c.get_or.ensures.answer ∙ at_hand_get c.args.self.now c.args.i }
