-- `has_turn` meets its contract: each row is asked by its number. Assumes nothing.
use mathlib.Core.Path.{refl, ◌∙◌}
use native.Mathlib.Nat.{sub-zero}
use native.Mathlib.Omega.{arith}
use lib.ListN.{length}
use borrow.Author.Rules.{rules}
use borrow.Author.Tests.{tests}
use Rattle.std.proofs.lemmas.Iterator.{YieldsList-from_range, serves_from_Range}
use Rattle.std.proofs.lemmas.Iterator.Search.{any_from_yields_List}
use Rattle.graph_table.proofs.Parts.{rows_count}
use Rattle.dot.proofs.Found.{turned, turned_some}
use Rattle.dot.proofs.rows.has_turn.Goals as goal

pub any-requires-clause-callable : goal.any-requires-clause-callable
any-requires-clause-callable c =
    let n = rows_count (length c.args.edges.now) c.args.edges.now (omega arith) in
    serves_from_Range (λ x q k. search rules) (λ x a b. ((λ l r g e o s u. omega arith), (λ l r g e o s u v. omega arith)))

pub returns : goal.returns
returns c =
    let n = c.row_count.result in
    record {
      answer =
          any_from_yields_List (turned c.args.edges.now) _ _ c.any.result c.any.ensures.ran (YieldsList-from_range 0 n n refl (sub-zero n)) (λ x b q k. search (rules, tests))
          ∙ turned_some c.args.edges.now n c.row_count.ensures.answer;
    }
