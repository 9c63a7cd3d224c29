-- `edge_at` meets its contract. Assumes nothing.
use borrow.Author.Rules.{rules}
use Rattle.block.specs.Block.{edge_cell}
use Rattle.block.proofs.edge_at.Goals as goal

pub returns : goal.returns
unfolding edge_cell
returns c = record { answer = search rules }
