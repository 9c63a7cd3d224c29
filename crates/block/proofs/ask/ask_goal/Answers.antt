-- `ask_goal` meets its contract. Assumes nothing.
use borrow.Author.Rules.{rules}
use Rattle.block.specs.Ask.{ask_goal}
use Rattle.block.proofs.ask.ask_goal.Goals as goal

pub returns : goal.returns
unfolding ask_goal
returns c = record { answer = search rules }
