-- `steps_preferred` meets its contract. The loop's invariant: the steps that are left decide.
-- Assumes nothing.
use mathlib.Core.Path.{◌≡◌, sym, ◌∙◌}
use native.Mathlib.Omega.{arith}
use lib.ListN.{length}
use Rattle.comparison.proofs.StepLaws.{preferred_ends, preferred_here, preferred_stops, preferred_apart, preferred_on}
use Rattle.comparison.proofs.steps.steps_preferred.Goals.{then-b-i-via-then-b-i, then-b-i-via-else-b-i+then-not-is_same}
use Rattle.comparison.proofs.steps.steps_preferred.Goals as goal

pub returns-then-preferred : goal.returns-then-preferred
returns-then-preferred c = record { answer = sym (c.loop-i.invariant ∙ preferred_here c.args.block.now c.loop-i.from c.args.a.now c.args.b.now c.loop-i.i _ _ c.end_at-less.ensures.answer c.end_at-more.ensures.answer _ c.preferred.ensures.answer c.if-preferred.true) }

pub returns-then-b-i : goal.returns-then-b-i
returns-then-b-i c =
    elim c.then-b-i.branch [
      | then-b-i-via-then-b-i w ↦ record { answer = sym (c.loop-i.invariant ∙ preferred_stops c.args.block.now c.loop-i.from c.args.a.now c.args.b.now c.loop-i.i _ _ c.end_at-less.ensures.answer c.end_at-more.ensures.answer _ c.preferred.ensures.answer c.if-preferred.false w.if-b-i.true) }
      | then-b-i-via-else-b-i+then-not-is_same w ↦ record { answer = sym (c.loop-i.invariant ∙ preferred_apart c.args.block.now c.loop-i.from c.args.a.now c.args.b.now c.loop-i.i _ _ c.end_at-less.ensures.answer c.end_at-more.ensures.answer _ c.preferred.ensures.answer c.if-preferred.false c.loop-i-test.true w.if-b-i.false _ w.is_same.ensures.answer w.if-not-is_same.true) }
    ]

pub loop-i-preserved : goal.loop-i-preserved
loop-i-preserved c = c.loop-i.invariant ∙ preferred_on c.args.block.now c.loop-i.from c.args.a.now c.args.b.now c.loop-i.i _ _ c.end_at-less.ensures.answer c.end_at-more.ensures.answer _ c.preferred.ensures.answer c.if-preferred.false c.loop-i-test.true c.if-b-i.false _ c.is_same.ensures.answer c.if-not-is_same.false

pub returns : goal.returns
returns c =
    let all : c.loop-i.i ≡ length c.args.a.now = omega arith in
    record { answer = sym (c.loop-i.invariant ∙ preferred_ends c.args.block.now c.loop-i.from c.args.a.now c.args.b.now c.loop-i.i c.loop-i-test.false _ (rw all c.end_at-more-2.ensures.answer) _ c.preferred-2.ensures.answer) }
