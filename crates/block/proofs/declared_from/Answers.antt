-- `declared_from` meets its contract. Assumes nothing.
use borrow.Author.Rules.{rules}
use Rattle.block.specs.Block.{first_declaration}
use Rattle.block.proofs.declared_from.Goals as goal

pub returns : goal.returns
unfolding first_declaration
returns c = record { answer = search rules }
