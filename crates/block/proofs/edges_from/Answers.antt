-- `edges_from` meets its contract. Assumes nothing.
use borrow.Author.Rules.{rules}
use Rattle.block.specs.Block.{first_edge}
use Rattle.block.proofs.edges_from.Goals as goal

pub returns : goal.returns
unfolding first_edge
returns c = record { answer = search rules }
