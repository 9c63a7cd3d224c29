-- `most_turn` meets its contract. Assumes nothing.
use borrow.Author.Rules.{rules}
use Rattle.block.specs.Block.{turn_cell}
use Rattle.block.proofs.edges.most_turn.Goals as goal

pub returns : goal.returns
unfolding turn_cell
returns c = record { answer = search rules }
