-- `path_row::writer::put_steps` meets its contract. The loop's invariant: what is left to write
-- gives the whole. Assumes nothing.
use mathlib.Core.Path.{ap}
use native.Mathlib.Numerals.{add-one}
use lib.ListN.{drop_of_length-le}
use lib.Seq.{drop-cons}
use Rattle.text_field.proofs.WritingLaws.{left_start, left_step, left_end}
use Rattle.path_row.specs.Form.{steps_text, no_step}
use Rattle.path_row.proofs.writer.put_steps.Goals as goal

pub loop-step-init : goal.loop-step-init
loop-step-init c = left_start _ _

pub loop-step-preserved : goal.loop-step-preserved
unfolding steps_text
loop-step-preserved c =
    left_step _ c.loop-step.invariant (rw add-one (ap steps_text (drop-cons c.args.steps.now c.loop-step.step-index no_step c.loop-step-test.true))) c.put_step.ensures.wrote

pub returns : goal.returns
unfolding steps_text
returns c = record { wrote = left_end c.loop-step.invariant (ap steps_text (drop_of_length-le c.args.steps.now {i = c.loop-step.step-index} c.loop-step-test.false)) }
