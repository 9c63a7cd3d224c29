-- `scope_count` meets its contract. Assumes nothing.
use borrow.Author.Rules.{rules}
use Rattle.block.specs.Block.{scopes_cell}
use Rattle.block.proofs.scope_count.Goals as goal

pub returns : goal.returns
unfolding scopes_cell
returns c = record { answer = search rules }
