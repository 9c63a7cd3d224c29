-- `ask_high` meets its contract. Assumes nothing.
use borrow.Author.Rules.{rules}
use Rattle.block.specs.Ask.{ask_name}
use Rattle.block.proofs.ask.ask_high.Goals as goal

pub returns : goal.returns
unfolding ask_name
returns c = record { answer = search rules }
