-- `counted` meets its contract. Assumes nothing.
use Rattle.resolution.specs.Figures.{figures_after}
use Rattle.resolution.specs.Asked.{found_meaning}
use Rattle.resolution.proofs.sums.counted.Goals as goal

pub returns-in-None : goal.returns-in-None
unfolding figures_after found_meaning
returns-in-None c = record { answer = rw c.in-None.is }

pub returns-in-One : goal.returns-in-One
unfolding figures_after found_meaning
returns-in-One c = record { answer = rw c.in-One.is }

pub returns-in-Several : goal.returns-in-Several
unfolding figures_after found_meaning
returns-in-Several c = record { answer = rw c.in-Several.is }
