-- `same` meets its contract. Assumes nothing.
use mathlib.Core.Path.{◌∙◌}
use borrow.Author.Rules.{rules}
use borrow.Author.Tests.{tests}
use Rattle.std.proofs.lemmas.Iterator.{YieldsList-from_slice}
use Rattle.std.proofs.lemmas.Iterator.Search.{all_from_yields_List}
use Rattle.path_rules.specs.Vectors.{alike_on}
use Rattle.path_rules.proofs.Steps.{same_is}
use Rattle.path_rules.proofs.vectors.same.Goals as goal

pub returns : goal.returns
returns c =
    let vs = c.args.vs.now in
    let a = c.args.a in
    let b = c.args.b in
    record {
      answer =
          all_from_yields_List (λ v. alike_on v a b) _ _ c.all.result c.all.ensures.ran (YieldsList-from_slice vs (cc)) (λ x b q k. search (rules, tests))
          ∙ same_is vs a b;
    }
