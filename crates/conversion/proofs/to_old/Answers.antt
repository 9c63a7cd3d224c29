-- `to_old` meets its contract. Assumes nothing.
use Rattle.conversion.specs.Conversion.{old_of}
use borrow.Author.Rules.{rules}
use Rattle.conversion.proofs.to_old.Goals as goal

pub returns : goal.returns
unfolding old_of
returns c = record { answer = search rules; memory = search rules }
