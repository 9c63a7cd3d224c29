-- `all_visible` meets its contract: from the rows that are left the answer is the same. Assumes
-- nothing.
use Prim.Native.Nat.{◌≤◌}
use mathlib.Core.Path.{refl, ◌∙◌}
use mathlib.Core.Bool.{true, false}
use native.Mathlib.Omega.{arith}
use borrow.Author.Rules.{rules}
use lib.ListN.{length}
use Rattle.board.specs.Queries.{query_on}
use Rattle.told.proofs.RowLaws.{told_none}
use Rattle.accepting.specs.Tests.{row_visible}
use Rattle.accepting.proofs.RowTests.{no_rows, all_end, all_no, all_yes, text_tells}
use Rattle.accepting.proofs.rows.all_visible.Goals as goal

pub loop-end-init : goal.loop-end-init
loop-end-init c = refl

pub returns : goal.returns
returns c = record { answer = all_end (row_visible c.args.table.now (query_on c.args.table.now c.args.q)) c.args.lists.now c.loop-end.at (no_rows c.args.lists.now c.loop-end.at (told_none c.args.lists.now c.loop-end.at _ c.row_at.ensures.answer c.in_default.is)) ∙ c.loop-end.invariant }

pub slice_bounds-row_visible-count : goal.slice_bounds-row_visible-count
slice_bounds-row_visible-count c = c.in-Some.ensures.answer.from

pub slice_bounds-row_visible-start : goal.slice_bounds-row_visible-start
slice_bounds-row_visible-start c = let h = c.in-Some.ensures.answer.from in search rules

pub slice_bounds-row_visible-end : goal.slice_bounds-row_visible-end
slice_bounds-row_visible-end c = let w = c.in-Some.ensures.answer in let m : c.in-Some.end ≤ length c.args.lists.now = omega arith in search rules

pub row_visible-requires : goal.row_visible-requires
row_visible-requires c = record { asked = c.requires.asked; made = c.requires.made }

pub returns-then-not-row_visible : goal.returns-then-not-row_visible
returns-then-not-row_visible c = record { answer = let w = c.in-Some.ensures.answer in all_no (row_visible c.args.table.now (query_on c.args.table.now c.args.q)) c.args.lists.now c.loop-end.at _ _ w (text_tells c.args.table.now c.args.q _ w.row w.read _ false c.row_visible.ensures.answer c.if-not-row_visible.true) ∙ c.loop-end.invariant }

pub loop-end-smaller : goal.loop-end-smaller
loop-end-smaller c = let w = c.in-Some.ensures.answer in omega (arith, w.from, w.grows, w.inside)

pub loop-end-preserved : goal.loop-end-preserved
loop-end-preserved c = let w = c.in-Some.ensures.answer in all_yes (row_visible c.args.table.now (query_on c.args.table.now c.args.q)) c.args.lists.now c.loop-end.at _ _ w (text_tells c.args.table.now c.args.q _ w.row w.read _ true c.row_visible.ensures.answer c.if-not-row_visible.false) ∙ c.loop-end.invariant
