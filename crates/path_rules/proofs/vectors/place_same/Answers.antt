-- `place_same` meets its contract. Assumes nothing.
use borrow.Author.Rules.{rules}
use borrow.Author.Tests.{tests}
use Rattle.std.proofs.lemmas.Iterator.{YieldsList-from_slice}
use Rattle.std.proofs.lemmas.Iterator.Search.{position_from_yields_List}
use Rattle.path_rules.specs.Vectors.{same_on, place_same}
use Rattle.path_rules.proofs.vectors.place_same.Goals as goal

pub returns : goal.returns
unfolding place_same
returns c = record {
  answer = position_from_yields_List (λ s. same_on c.args.vs.now s c.args.t) _ _ c.position.result c.position.ensures.ran (YieldsList-from_slice c.args.sets.now (cc)) (λ x b q k. search (rules, tests));
}
