-- `fill` meets its contract: the parts are put one after the other. Assumes nothing.
use mathlib.Core.Path.{sym}
use mathlib.Core.Bool.{false}
use lib.ListN.{get_or}
use borrow.Author.Rules.{rules}
use borrow.Author.Tests.{tests}
use native.Mathlib.Omega.{arith}
use Rattle.ruled.specs.Ruled.{transition_at, accept_at, transition_rows, accept_rows, transitions_to, accepts_to}
use Rattle.ruled.proofs.Places.{read_some}
use Rattle.ruled.proofs.FillLaws.{first_within, where_at, filled}
use Rattle.ruled.proofs.fill.fill.Goals as goal

pub label_count-labels-requires : goal.label_count-labels-requires
label_count-labels-requires c = record { some = read_some c.args.table.now c.requires.read }

pub rows_from-before-requires : goal.rows_from-before-requires
rows_from-before-requires c = let h = read_some c.args.table.now c.requires.read in record { column = omega arith; within = omega arith }

pub rows_from-behind-requires : goal.rows_from-behind-requires
rows_from-behind-requires c = record { column = omega arith; within = first_within c.args.table.now c.requires.read c.rows_from-before.result c.rows_from-before.ensures.answer }

pub slice_bounds-put_cells-end : goal.slice_bounds-put_cells-end
slice_bounds-put_cells-end c = let w = where_at c.args.table.now c.requires.read c.rows_from-before.result c.rows_from-behind.result c.rows_from-before.ensures.answer c.rows_from-behind.ensures.answer in let in-it = w.within in sym w.front

pub offset_bounds-table-behind : goal.offset_bounds-table-behind
offset_bounds-table-behind c = let w = where_at c.args.table.now c.requires.read c.rows_from-before.result c.rows_from-behind.result c.rows_from-before.ensures.answer c.rows_from-behind.ensures.answer in let in-it = w.within in omega arith

pub slice_bounds-put_cells-count : goal.slice_bounds-put_cells-count
slice_bounds-put_cells-count c = let w = where_at c.args.table.now c.requires.read c.rows_from-before.result c.rows_from-behind.result c.rows_from-before.ensures.answer c.rows_from-behind.ensures.answer in let in-it = w.within in in-it

pub slice_bounds-put_cells-start : goal.slice_bounds-put_cells-start
slice_bounds-put_cells-start c = let w = where_at c.args.table.now c.requires.read c.rows_from-before.result c.rows_from-behind.result c.rows_from-before.ensures.answer c.rows_from-behind.ensures.answer in let in-it = w.within in in-it

pub returns : goal.returns
unfolding transition_rows accept_rows transitions_to accepts_to
returns c =
    let w = where_at c.args.table.now c.requires.read c.rows_from-before.result c.rows_from-behind.result c.rows_from-before.ensures.answer c.rows_from-behind.ensures.answer in
    let r = c.args.r.now in
    let labels = c.label_count-labels.result in
    record {
      written =
          filled c.args.table.now c.requires.read r c.rows_from-before.result c.rows_from-behind.result labels (c.args.own.now, 0) _ _ _ _ w.at w.to c.label_count-labels.ensures.answer
          c.put_cells-above.ensures.written
          (c.put_rows-middle.ensures.written (λ k. transition_at r.states labels k (get_or r.next k 0)) (λ k o b h. search (rules, tests)))
          (c.put_rows-below.ensures.written (λ q. accept_at r.states q (get_or r.accepts q false)) (λ q o b h. search (rules, tests)))
          c.put_cells.ensures.written;
    }
