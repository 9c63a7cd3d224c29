-- `place` meets its contract. Assumes nothing.
use mathlib.Core.Path.{ap, ◌∙◌}
use lib.Dec.{eqb}
use borrow.Author.Rules.{rules}
use borrow.Author.Tests.{tests}
use Rattle.std.specs.Option.{unwrap_or}
use Rattle.std.proofs.lemmas.Iterator.{YieldsList-from_slice}
use Rattle.std.proofs.lemmas.Iterator.Adapters.{position_from-zero}
use Rattle.std.proofs.lemmas.Iterator.Search.{position_from_yields_List}
use Rattle.path_rules.proofs.Steps.{place_is}
use Rattle.path_rules.proofs.reading.place.Goals as goal

pub returns : goal.returns
returns c =
    let labels = c.args.labels.now in
    let b = c.args.b in
    record {
      answer =
          c.unwrap_or.ensures
          ∙ ap (λ o. unwrap_or o 8)
          (position_from_yields_List (λ l. eqb l b) _ _ c.position.result c.position.ensures.ran (YieldsList-from_slice labels (cc)) (λ x b q k. search (rules, tests))
          ∙ position_from-zero (λ l. eqb l b) labels)
          ∙ place_is b labels 0;
    }
