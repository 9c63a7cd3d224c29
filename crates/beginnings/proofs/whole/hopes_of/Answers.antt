-- `hopes_of` meets its contract. Assumes nothing.
use mathlib.Core.Path.{ap₂, ◌∙◌}
use Rattle.board.specs.Tables.{hopeful_set}
use Rattle.board.proofs.StateCells.{next_first}
use Rattle.beginnings.specs.Tables.{hopes_in}
use Rattle.beginnings.proofs.whole.hopes_of.Goals as goal

pub returns : goal.returns
unfolding hopes_in
returns c = record { answer = c.hopeful.ensures.answer ∙ ap₂ hopeful_set (next_first c.args.block.now) c.accept_set.ensures.answer }
