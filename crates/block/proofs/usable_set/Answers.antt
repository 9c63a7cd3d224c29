-- `usable_set` meets its contract. Assumes nothing.
use borrow.Author.Rules.{rules}
use Rattle.block.specs.Block.{usable_set}
use Rattle.block.proofs.usable_set.Goals as goal

pub returns : goal.returns
unfolding usable_set
returns c = record { answer = search rules }
