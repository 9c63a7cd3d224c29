-- `label_number` meets its contract. The loop's invariant: the number is sought among the labels
-- that are left. Assumes nothing.
use mathlib.Core.Path.{◌≡◌, sym, ◌∙◌}
use native.Mathlib.Omega.{arith}
use Rattle.comparison.proofs.LetterLaws.{seek_first, seek_none, seek_here, seek_next, seek_full}
use Rattle.comparison.proofs.letters.label_number.Goals as goal

pub loop-l-init : goal.loop-l-init
loop-l-init c = seek_first c.args.block.now c.args.x

pub returns-then-y-eq-NO_LETTER : goal.returns-then-y-eq-NO_LETTER
returns-then-y-eq-NO_LETTER c = record { answer = sym (c.loop-l.invariant ∙ seek_none c.args.block.now c.args.x c.loop-l.l c.letter-y.result c.loop-l-test.true c.letter-y.ensures.answer c.if-y-eq-NO_LETTER.true) }

pub returns-then-y-x : goal.returns-then-y-x
returns-then-y-x c = record { answer = sym (c.loop-l.invariant ∙ seek_here c.args.block.now c.args.x c.loop-l.l c.letter-y.result c.loop-l-test.true c.letter-y.ensures.answer c.if-y-eq-NO_LETTER.false c.if-y-x.true) }

pub loop-l-preserved : goal.loop-l-preserved
loop-l-preserved c = c.loop-l.invariant ∙ seek_next c.args.block.now c.args.x c.loop-l.l c.letter-y.result c.loop-l-test.true c.letter-y.ensures.answer c.if-y-eq-NO_LETTER.false c.if-y-x.false

pub returns : goal.returns
returns c =
    let all : c.loop-l.l ≡ 8 = omega arith in
    record { answer = sym (rw all at (c.loop-l.invariant ∙ seek_full c.args.block.now c.args.x c.loop-l.l c.loop-l-test.false)) }
