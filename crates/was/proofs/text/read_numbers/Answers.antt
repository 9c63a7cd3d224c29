-- `read_numbers` meets its contract. The loop's invariant is `Reading`: k numbers are read, and
-- what is left gives the whole. Assumes nothing.
use mathlib.Core.Path.{refl, sym, ◌∙◌}
use lib.ListN.{replicate}
use Rattle.was.proofs.ReadingTurns.{reading_start, reading_none, reading_high, reading_twice, reading_next, reading_more, reading_end}
use Rattle.was.proofs.text.read_numbers.Goals.{then-n-v-via-then-n-v, then-n-v-via-else-n-v+then-is_listed}
use Rattle.was.proofs.text.read_numbers.Goals as goal

pub loop-k-init : goal.loop-k-init
loop-k-init c = reading_start c.args.text.now c.args.at c.args.n (replicate 64 0) refl

pub returns-in_err-v : goal.returns-in_err-v
returns-in_err-v c = record { answer = c.from_residual.ensures ∙ reading_none c.args.text.now c.args.at c.args.n (replicate 64 0) c.loop-k.list c.loop-k.k c.loop-k.p c.loop-k.invariant c.loop-k-test.true (sym c.in_err-v.was ∙ c.number_line.ensures.answer) }

pub returns-then-n-v : goal.returns-then-n-v
returns-then-n-v c =
    elim c.then-n-v.branch [
      | then-n-v-via-then-n-v w ↦ record { answer = reading_high c.args.text.now c.args.at c.args.n (replicate 64 0) c.loop-k.list c.loop-k.k c.loop-k.p c.loop-k.invariant c.loop-k-test.true _ _ (sym c.in_ok-v.was ∙ c.number_line.ensures.answer) w.if-n-v.true }
      | then-n-v-via-else-n-v+then-is_listed w ↦ record { answer = reading_twice c.args.text.now c.args.at c.args.n (replicate 64 0) c.loop-k.list c.loop-k.k c.loop-k.p c.loop-k.invariant c.loop-k-test.true _ _ (sym c.in_ok-v.was ∙ c.number_line.ensures.answer) w.if-n-v.false _ w.is_listed.ensures.answer w.if-is_listed.true }
    ]

pub loop-k-preserved : goal.loop-k-preserved
loop-k-preserved c = reading_next c.args.text.now c.args.at c.args.n (replicate 64 0) c.loop-k.list c.loop-k.k c.loop-k.p c.loop-k.invariant c.loop-k-test.true _ _ (sym c.in_ok-v.was ∙ c.number_line.ensures.answer) c.if-n-v.false _ c.is_listed.ensures.answer c.requires.count c.if-is_listed.false

pub returns-then-p-text : goal.returns-then-p-text
returns-then-p-text c = record { answer = reading_more c.args.text.now c.args.at c.args.n (replicate 64 0) c.loop-k.list c.loop-k.k c.loop-k.p c.loop-k.invariant c.loop-k-test.false c.if-p-text.true }

pub returns : goal.returns
returns c = record { answer = reading_end c.args.text.now c.args.at c.args.n (replicate 64 0) c.loop-k.list c.loop-k.k c.loop-k.p c.loop-k.invariant c.loop-k-test.false refl c.if-p-text.false }
