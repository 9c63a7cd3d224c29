-- `is_among` meets its contract: from the rows that are left the answer is the same. Assumes
-- nothing.
use Prim.Native.Nat.{◌≤◌}
use mathlib.Core.Path.{refl, ◌∙◌}
use mathlib.Core.Bool.{true, false}
use native.Mathlib.Omega.{arith}
use borrow.Author.Rules.{rules}
use lib.ListN.{length}
use Rattle.path_row.specs.Form.{PathRow, row_text}
use Rattle.told.proofs.RowLaws.{told_none}
use Rattle.accepting.specs.Tests.{same_bytes}
use Rattle.accepting.specs.Steps.{text_among}
use Rattle.accepting.proofs.RowTests.{no_rows, any_end, any_yes, any_no}
use Rattle.accepting.proofs.RepeatLaws.{pointwise_same, text_same}
use Rattle.accepting.proofs.repeats.is_among.Goals as goal

pub loop-end-init : goal.loop-end-init
loop-end-init c = refl

pub returns : goal.returns
unfolding text_among
returns c = record { answer = any_end (λ (p : PathRow). same_bytes c.args.row.now (row_text p)) c.args.lists.now c.loop-end.at (no_rows c.args.lists.now c.loop-end.at (told_none c.args.lists.now c.loop-end.at _ c.row_at.ensures.answer c.in_default.is)) ∙ c.loop-end.invariant }

pub slice_bounds-eq-count : goal.slice_bounds-eq-count
slice_bounds-eq-count c = c.in-Some.ensures.answer.from

pub slice_bounds-eq-start : goal.slice_bounds-eq-start
slice_bounds-eq-start c = let h = c.in-Some.ensures.answer.from in search rules

pub slice_bounds-eq-end : goal.slice_bounds-eq-end
slice_bounds-eq-end c = let w = c.in-Some.ensures.answer in let m : c.in-Some.end ≤ length c.args.lists.now = omega arith in search rules

pub returns-then-eq : goal.returns-then-eq
unfolding text_among
returns-then-eq c = record { answer = let w = c.in-Some.ensures.answer in any_yes (λ (p : PathRow). same_bytes c.args.row.now (row_text p)) c.args.lists.now c.loop-end.at _ _ w (text_same c.args.lists.now c.loop-end.at _ _ w c.args.row.now _ true (c.eq.ensures ∙ pointwise_same _ _) c.if-eq.true) ∙ c.loop-end.invariant }

pub loop-end-smaller : goal.loop-end-smaller
loop-end-smaller c = let w = c.in-Some.ensures.answer in omega (arith, w.from, w.grows, w.inside)

pub loop-end-preserved : goal.loop-end-preserved
unfolding text_among
loop-end-preserved c = let w = c.in-Some.ensures.answer in any_no (λ (p : PathRow). same_bytes c.args.row.now (row_text p)) c.args.lists.now c.loop-end.at _ _ w (text_same c.args.lists.now c.loop-end.at _ _ w c.args.row.now _ false (c.eq.ensures ∙ pointwise_same _ _) c.if-eq.false) ∙ c.loop-end.invariant
