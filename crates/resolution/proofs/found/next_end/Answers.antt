-- `next_end` meets its contract. Assumes nothing.
use mathlib.Core.Path.{◌≡◌}
use mathlib.Core.Bool.{true, false}
use borrow.Author.Tests.{tests}
use borrow.Author.Rules.{rules}
use Rattle.std.proofs.lemmas.Iterator.{first_from_Range}
use Rattle.resolution.proofs.Ends.{ended, searched}
use Rattle.resolution.proofs.found.next_end.Goals as goal

pub returns : goal.returns
returns c =
    let e = ended c.args.table.now c.args.ask.now
    in record { first = searched c.args.table.now c.args.ask.now c.args.from _ (first_from_Range _ _ _ _ (λ i. e i ≡ true) (λ i. e i ≡ false) c.find.ensures.ran (λ x q k. search (rules, tests)) (λ x q k. search (rules, tests))) }
