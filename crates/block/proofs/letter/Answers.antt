-- `letter` meets its contract. Assumes nothing.
use borrow.Author.Rules.{rules}
use Rattle.block.specs.Block.{letter_cell}
use Rattle.block.proofs.letter.Goals as goal

pub returns : goal.returns
unfolding letter_cell
returns c = record { answer = search rules }
