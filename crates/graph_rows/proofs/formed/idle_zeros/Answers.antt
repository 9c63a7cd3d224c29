use Prim.Native.Nat.{ℕ, ◌-◌}
use mathlib.Core.Path.{refl, ◌∙◌}
use lib.Dec.{eqb}
use lib.ListN.{get_or}
use borrow.Author.Rules.{rules}
use borrow.Author.Tests.{tests}
use Rattle.std.proofs.lemmas.Iterator.{YieldsList-from_range}
use Rattle.std.proofs.lemmas.Iterator.Search.{all_from_yields_List}
use Rattle.graph_rows.proofs.ValueLaws.{idle_told}
use Rattle.graph_rows.proofs.formed.idle_zeros.Goals as goal

pub returns : goal.returns
returns c =
    let row = c.args.row.now
    in record {
      answer =
          all_from_yields_List (λ (d : ℕ). eqb (get_or row d 0) 0) _ _ c.all.result c.all.ensures.ran (YieldsList-from_range c.args.s.filled 5 (5 - c.args.s.filled) refl refl) (λ x b q k. search (rules, tests))
          ∙ idle_told c.args.s c.requires.layout row;
    }
