-- `count_classes` meets its contract: the rows that are left give the counts of all. Assumes nothing.
use Prim.Native.Nat.{◌≤◌}
use mathlib.Core.Path.{refl, ◌∙◌}
use native.Mathlib.Omega.{arith}
use borrow.Author.Rules.{rules}
use lib.ListN.{length}
use Rattle.told.proofs.RowLaws.{told_none}
use Rattle.accepting.proofs.RowTests.{no_rows}
use Rattle.accepting.proofs.ClassLaws.{counts_next, counts_end}
use Rattle.accepting.proofs.repeats.count_classes.Goals as goal

pub loop-end-init : goal.loop-end-init
loop-end-init c = refl

pub returns : goal.returns
returns c = record { counted = counts_end c.args.lists.now c.loop-end.at c.loop-end.counts (no_rows c.args.lists.now c.loop-end.at (told_none c.args.lists.now c.loop-end.at _ c.row_at.ensures.answer c.in_default.is)) ∙ c.loop-end.invariant }

pub slice_bounds-class_of-count : goal.slice_bounds-class_of-count
slice_bounds-class_of-count c = c.in-Some.ensures.answer.from

pub slice_bounds-class_of-start : goal.slice_bounds-class_of-start
slice_bounds-class_of-start c = let h = c.in-Some.ensures.answer.from in search rules

pub slice_bounds-class_of-end : goal.slice_bounds-class_of-end
slice_bounds-class_of-end c = let w = c.in-Some.ensures.answer in let m : c.in-Some.end ≤ length c.args.lists.now = omega arith in search rules

pub bounds-counts-class : goal.bounds-counts-class
bounds-counts-class c = c.class_of-class.ensures.below

pub bounds-counts-class-in-Some : goal.bounds-counts-class-in-Some
bounds-counts-class-in-Some c = c.class_of-class.ensures.below

pub loop-end-smaller : goal.loop-end-smaller
loop-end-smaller c = let w = c.in-Some.ensures.answer in omega (arith, w.from, w.grows, w.inside)

pub loop-end-preserved : goal.loop-end-preserved
loop-end-preserved c = let w = c.in-Some.ensures.answer in counts_next c.args.lists.now c.loop-end.at _ _ w c.loop-end.counts _ _ c.class_of-class.ensures.answer c.one_more.ensures.answer ∙ c.loop-end.invariant
