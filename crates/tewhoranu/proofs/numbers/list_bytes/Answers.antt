-- `tewhoranu::numbers::list_bytes` answers what the number lent for the list's size is left with.
-- Assumes nothing.
use borrow.Author.Rules.{rules}
use Rattle.renumbering.specs.Renumbering.{numbered_of}
use Rattle.tewhoranu.specs.Numbers.{listed_left}
use Rattle.tewhoranu.proofs.numbers.list_bytes.Goals as goal

pub returns-in-Ok : goal.returns-in-Ok
unfolding numbered_of listed_left
returns-in-Ok c = search rules

pub returns-in-Err : goal.returns-in-Err
unfolding numbered_of listed_left
returns-in-Err c = search rules
