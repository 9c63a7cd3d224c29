-- `ask_start` meets its contract. Assumes nothing.
use borrow.Author.Rules.{rules}
use Rattle.block.specs.Ask.{ask_start}
use Rattle.block.proofs.ask.ask_start.Goals as goal

pub returns : goal.returns
unfolding ask_start
returns c = record { answer = search rules }
