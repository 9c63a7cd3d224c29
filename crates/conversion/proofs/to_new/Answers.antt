-- `to_new` meets its contract. Assumes nothing.
use Rattle.conversion.specs.Conversion.{new_of}
use borrow.Author.Rules.{rules}
use Rattle.conversion.proofs.to_new.Goals as goal

pub returns : goal.returns
unfolding new_of
returns c = record { answer = search rules; memory = search rules }
