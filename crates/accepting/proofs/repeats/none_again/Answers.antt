-- `none_again` meets its contract: from the rows that are left the answer is the same. Assumes
-- nothing.
use Prim.Native.Nat.{◌≤◌}
use mathlib.Core.Path.{refl, ◌∙◌}
use native.Mathlib.Omega.{arith}
use borrow.Author.Rules.{rules}
use lib.ListN.{length}
use Rattle.told.proofs.RowLaws.{told_none}
use Rattle.accepting.proofs.RowTests.{no_rows}
use Rattle.accepting.proofs.RepeatLaws.{twice_here, once_here, once_end}
use Rattle.accepting.proofs.ClassLaws.{tells_row, tells_rest}
use Rattle.accepting.proofs.repeats.none_again.Goals as goal

pub loop-end-init : goal.loop-end-init
loop-end-init c = (refl, c.requires.tell)

pub returns : goal.returns
returns c = record { answer = once_end c.args.lists.now c.loop-end.at (no_rows c.args.lists.now c.loop-end.at (told_none c.args.lists.now c.loop-end.at _ c.row_at.ensures.answer c.in_default.is)) ∙ c.loop-end.invariant.0 }

pub slice_bounds-stands_again-count : goal.slice_bounds-stands_again-count
slice_bounds-stands_again-count c = c.in-Some.ensures.answer.from

pub slice_bounds-stands_again-start : goal.slice_bounds-stands_again-start
slice_bounds-stands_again-start c = let h = c.in-Some.ensures.answer.from in search rules

pub slice_bounds-stands_again-end : goal.slice_bounds-stands_again-end
slice_bounds-stands_again-end c = let w = c.in-Some.ensures.answer in let m : c.in-Some.end ≤ length c.args.lists.now = omega arith in search rules

pub stands_again-requires : goal.stands_again-requires
stands_again-requires c = record { shared = tells_row c.args.lists.now c.loop-end.at _ _ c.in-Some.ensures.answer c.args.counts.now c.loop-end.invariant.1 }

pub returns-then-stands_again : goal.returns-then-stands_again
returns-then-stands_again c = record { answer = let w = c.in-Some.ensures.answer in twice_here c.args.lists.now c.loop-end.at _ _ w _ c.stands_again.ensures.answer c.if-stands_again.true ∙ c.loop-end.invariant.0 }

pub loop-end-smaller : goal.loop-end-smaller
loop-end-smaller c = let w = c.in-Some.ensures.answer in omega (arith, w.from, w.grows, w.inside)

pub loop-end-preserved : goal.loop-end-preserved
loop-end-preserved c = let w = c.in-Some.ensures.answer in (once_here c.args.lists.now c.loop-end.at _ _ w _ c.stands_again.ensures.answer c.if-stands_again.false ∙ c.loop-end.invariant.0, tells_rest c.args.lists.now c.loop-end.at _ _ w c.args.counts.now c.loop-end.invariant.1)
