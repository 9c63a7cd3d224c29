use Prim.Native.Nat.{ℕ, ◌+◌, ◌*◌}
use mathlib.Core.Path.{refl, ◌∙◌}
use native.Mathlib.Nat.{sub-zero}
use lib.ListN.{drop}
use borrow.Author.Rules.{rules}
use borrow.Author.Tests.{tests}
use Rattle.std.proofs.lemmas.Iterator.{YieldsList-from_range}
use Rattle.std.proofs.lemmas.Iterator.Search.{any_from_yields_List}
use Rattle.graph_rows.specs.Admission.{row_of}
use Rattle.graph_rows.specs.Order.{gap}
use Rattle.graph_rows.specs.Table.{pairs_at}
use Rattle.graph_rows.proofs.RowLaws.{some_told}
use Rattle.graph_rows.proofs.order.has_gap.Goals as goal

pub returns : goal.returns
unfolding pairs_at
returns c =
    let first = 1 + 6 * c.args.labels
    in record {
      answer =
          any_from_yields_List (λ (i : ℕ). gap (pairs_at c.args.labels c.args.pairs c.args.table.now) c.args.a c.args.b (row_of (drop (first + 6 * i) c.args.table.now))) _ _ c.any.result c.any.ensures.ran (YieldsList-from_range 0 c.args.pairs c.args.pairs refl (sub-zero c.args.pairs)) (λ x b q k. search (rules, tests))
          ∙ some_told (gap (pairs_at c.args.labels c.args.pairs c.args.table.now) c.args.a c.args.b) c.args.table.now first c.args.pairs;
    }
