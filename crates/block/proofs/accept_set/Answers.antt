-- `accept_set` meets its contract. Assumes nothing.
use borrow.Author.Rules.{rules}
use Rattle.block.specs.Block.{accept_set}
use Rattle.block.proofs.accept_set.Goals as goal

pub returns : goal.returns
unfolding accept_set
returns c = record { answer = search rules }
