-- `path_row::writer::steps_made` meets its contract. The loop's invariant: the steps made, and those
-- that are left, make the whole. Assumes nothing.
use mathlib.Core.Path.{◌≡◌, sym, ◌∙◌, ap}
use native.Mathlib.Omega.{arith}
use lib.ListN.{length, length-set}
use Rattle.path_row.specs.declared.taken.Steps.{Steps}
use Rattle.path_row.specs.Form.{steps_at_hand, padded}
use Rattle.path_row.proofs.TakenLaws.{at_hand_taken}
use Rattle.path_row.proofs.WriterLaws.{steps_first, made_more, made_all}
use Rattle.path_row.proofs.writer.steps_made.Goals as goal

pub loop-i-init : goal.loop-i-init
unfolding padded
loop-i-init c = record { room = ap (λ (s : Steps). length s.steps) c.no_steps.ensures.answer; makes = steps_first _ _ _ }

pub bounds-steps-i : goal.bounds-steps-i
bounds-steps-i c = omega arith

pub loop-i-preserved : goal.loop-i-preserved
loop-i-preserved c = record {
  room = length-set _ _ _ ∙ c.loop-i.invariant.room;
  makes = made_more _ _ _ c.loop-i.i _ _ _ _ (omega arith) (omega arith) c.get_or.ensures.answer c.get_or-in-loop-i.ensures.answer c.loop-i.invariant.makes;
}

pub returns : goal.returns
unfolding steps_at_hand
returns c =
    let all : c.loop-i.i ≡ c.args.count = omega arith in
    record { answer = sym (at_hand_taken (record { steps = c.loop-i.steps; count = c.args.count }) (omega (arith, c.loop-i.invariant.room))) ∙ made_all c.args.letters.now c.args.scopes.now c.args.count c.loop-i.steps _ (rw all at c.loop-i.invariant.makes) }
