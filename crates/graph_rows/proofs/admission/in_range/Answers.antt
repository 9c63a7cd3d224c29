use Prim.Native.Nat.{ℕ}
use mathlib.Core.Path.{refl, ◌∙◌}
use mathlib.Core.Bool.{not}
use lib.Dec.{eqb}
use lib.ListN.{drop}
use borrow.Author.Rules.{rules}
use borrow.Author.Tests.{tests}
use Rattle.std.proofs.lemmas.Iterator.{YieldsList-from_slice}
use Rattle.std.proofs.lemmas.Iterator.Search.{YieldsList-from_take_while, all_from_yields_List}
use Rattle.graph_rows.specs.Admission.{row_of, item_in_range, in_range}
use Rattle.graph_rows.specs.Table.{format_bytes, item_of, items_at}
use Rattle.graph_rows.proofs.FormatLaws.{every_code}
use Rattle.graph_rows.proofs.admission.in_range.Goals as goal

pub returns : goal.returns
unfolding in_range item_in_range items_at
returns c =
    let codes = drop c.args.o format_bytes
    in record {
      answer =
          all_from_yields_List (λ (x : ℕ). item_in_range c.args.labels c.args.scopes (row_of (drop c.args.p c.args.table.now)) (item_of x)) _ _ c.all.result c.all.ensures.ran (YieldsList-from_take_while _ (λ (x : ℕ). not (eqb x 10)) (YieldsList-from_slice codes (cc)) c.take_while.ensures.closure c.take_while.ensures.done (λ x b q k. search (rules, tests))) (λ x b q k. search (rules, tests))
          ∙ every_code (item_in_range c.args.labels c.args.scopes (row_of (drop c.args.p c.args.table.now))) refl codes;
    }
