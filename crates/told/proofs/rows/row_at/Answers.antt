-- `row_at` meets its contract: the line at the place, read as a path row. Assumes nothing.
use Prim.Native.Nat.{◌≤◌}
use native.Mathlib.Omega.{arith}
use lib.ListN.{length}
use Rattle.path_row.proofs.RowReads.{row_is_refused, row_is}
use Rattle.told.proofs.RowLaws.{row_none, line_from, line_inside, row_other, row_stands}
use borrow.Author.Rules.{rules}
use Rattle.told.proofs.rows.row_at.Goals as goal

pub returns-in_err-end : goal.returns-in_err-end
returns-in_err-end c = record { answer = rw c.from_residual.ensures (row_none c.args.s.now c.args.at _ c.next_line.ensures.answer c.in_err-end.was) }

pub slice_bounds-read_row-count : goal.slice_bounds-read_row-count
slice_bounds-read_row-count c = line_from c.args.s.now c.args.at _ c.next_line.ensures.answer _ _ c.in_ok-end.was

pub slice_bounds-read_row-start : goal.slice_bounds-read_row-start
slice_bounds-read_row-start c = let h = line_from c.args.s.now c.args.at _ c.next_line.ensures.answer _ _ c.in_ok-end.was in search rules

pub slice_bounds-read_row-end : goal.slice_bounds-read_row-end
slice_bounds-read_row-end c = let h = line_inside c.args.s.now c.args.at _ c.next_line.ensures.answer _ _ c.in_ok-end.was in let m : c.in_ok-end.end ≤ length c.args.s.now = omega arith in search rules

pub returns-in_err-read_row : goal.returns-in_err-read_row
returns-in_err-read_row c = record { answer = rw c.from_residual-in_err-read_row.ensures (row_other c.args.s.now c.args.at _ c.next_line.ensures.answer _ _ c.in_ok-end.was (row_is_refused _ _ c.read_row.ensures.answer c.in_err-read_row.was)) }

pub returns : goal.returns
returns c = record { answer = let w = row_is _ _ c.read_row.ensures.answer _ _ _ c.in_ok-read_row.was in row_stands c.args.s.now c.args.at _ c.next_line.ensures.answer _ _ c.in_ok-end.was w.row w.read }
