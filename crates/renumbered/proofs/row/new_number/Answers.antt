-- `new_number` meets its contract: the search for the first place tells it. Assumes nothing.
use mathlib.Core.Path.{◌∙◌}
use lib.Dec.{eqb}
use borrow.Author.Rules.{rules}
use borrow.Author.Tests.{tests}
use Rattle.std.proofs.lemmas.Iterator.{YieldsList-from_slice}
use Rattle.std.proofs.lemmas.Iterator.Search.{position_from_yields_List}
use Rattle.renumbered.proofs.Numbers.{number_told}
use Rattle.renumbered.proofs.row.new_number.Goals as goal

pub returns : goal.returns
returns c = record {
  answer =
      let was = c.args.was.now in
      let x = c.args.x in
      c.unwrap_or.ensures
      ∙ number_told x was c.position.result
      (position_from_yields_List (λ y. eqb y x) _ _ c.position.result c.position.ensures.ran (YieldsList-from_slice was c.iter.ensures.rest) (λ y b q k. search (rules, tests)));
}
