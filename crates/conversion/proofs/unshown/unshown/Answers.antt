-- `unshown` meets its contract: each row is asked by its number. Assumes nothing.
use mathlib.Core.Path.{refl, ◌∙◌}
use native.Mathlib.Nat.{sub-zero}
use native.Mathlib.Omega.{arith}
use lib.ListN.{length}
use borrow.Author.Rules.{rules}
use borrow.Author.Tests.{tests}
use Rattle.std.proofs.lemmas.Iterator.{YieldsList-from_range, serves_from_Range}
use Rattle.std.proofs.lemmas.Iterator.Search.{any_from_yields_List}
use Rattle.graph_table.proofs.Leading.{first_within}
use Rattle.graph_table.proofs.Parts.{rows_count}
use Rattle.conversion.proofs.Rows.{other_at, behind, other_some}
use Rattle.conversion.proofs.unshown.unshown.Goals as goal

pub offset_bounds-table-first_row : goal.offset_bounds-table-first_row
offset_bounds-table-first_row c = let f = first_within c.args.table.now in omega (arith, c.first_row.ensures.answer)

pub slice_bounds-rows-count : goal.slice_bounds-rows-count
slice_bounds-rows-count c = let f = first_within c.args.table.now in omega (arith, c.first_row.ensures.answer)

pub slice_bounds-rows-start : goal.slice_bounds-rows-start
slice_bounds-rows-start c = let f = first_within c.args.table.now in omega (arith, c.first_row.ensures.answer)

pub any-requires-clause-callable : goal.any-requires-clause-callable
any-requires-clause-callable c =
    let rows = behind c.args.table.now c.first_row.result in
    let n = rows_count (length rows) rows (omega arith) in
    serves_from_Range (λ x q k. search rules) (λ x a b. ((λ l r g e o s u. omega arith), (λ l r g e o s u v. omega arith)))

pub returns : goal.returns
returns c =
    let n = c.row_count.result in
    record {
      answer =
          any_from_yields_List (other_at (behind c.args.table.now c.first_row.result)) _ _ c.any.result c.any.ensures.ran (YieldsList-from_range 0 n n refl (sub-zero n)) (λ x b q k. search (rules, tests))
          ∙ other_some c.args.table.now c.first_row.result n c.first_row.ensures.answer c.row_count.ensures.answer;
    }
