-- `state_count` meets its contract. Assumes nothing.
use borrow.Author.Rules.{rules}
use Rattle.block.specs.Block.{states_cell}
use Rattle.block.proofs.state_count.Goals as goal

pub returns : goal.returns
unfolding states_cell
returns c = record { answer = search rules }
