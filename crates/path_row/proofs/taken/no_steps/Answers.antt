-- `path_row::taken::no_steps` meets its contract. Assumes nothing.
use mathlib.Core.Path.{refl}
use Rattle.path_row.specs.Form.{padded}
use Rattle.path_row.proofs.taken.no_steps.Goals as goal

pub returns : goal.returns
unfolding padded
returns c = record { answer = refl }
