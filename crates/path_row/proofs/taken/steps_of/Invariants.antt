use Rattle.path_row.specs.Form.{steps_in}
use Rattle.path_row.proofs.TakenLaws.{Taking}
use Rattle.path_row.proofs.taken.steps_of.Given as goal

abbrev pub invariant-loop-count : goal.invariant-loop-count
invariant-loop-count l = Taking l.row (steps_in l.row) l.steps l.at l.count
