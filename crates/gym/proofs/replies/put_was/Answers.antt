-- `gym::replies::put_was` puts the list that `renumber` makes, or the line of its refusal. Assumes
-- nothing.
use mathlib.Core.Path.{ap, subst, ◌∙◌}
use native.Mathlib.Omega.{arith}
use Prim.Native.Nat.{ℕ}
use lib.ListN.{length, replicate, length-replicate}
use Rattle.text_field.specs.Outcome.{Outcome}
use Rattle.renumbering.specs.Renumbering.{Renumbering, renumber_of, room_for, list_of}
use Rattle.renumbering.specs.Alone.{list_size}
use Rattle.renumbering.proofs.AloneLaws.{list_answered, size_answered}
use Rattle.printing.specs.Printed.{in_place}
use Rattle.gym.specs.Said.{reply_room}
use Rattle.gym.specs.Handed.{Replied}
use Rattle.gym.proofs.NumberedLaws.{room_enough}
use Rattle.gym.proofs.replies.put_was.Goals as goal

pub returns : goal.returns
returns c = record {
  written = let made : ℕ = length (replicate {A = ℕ} 32768 0) in
      subst (λ (o : Outcome Renumbering). Replied c.args.out.now c.put_made.new.out c.put_made.result (in_place reply_room (list_of o)))
      (room_enough c.args.text.now made (length c.args.out.now) (omega (arith, length-replicate {A = ℕ} 32768 0)) (omega (arith, c.requires.room)))
      (c.put_made.ensures.written (list_of (room_for made (length c.args.out.now) (renumber_of c.args.text.now))) c.args.out.now c.requires.room
      (size_answered list_size _ _ c.list_answer.ensures.answer ∙ ap list_size c.renumber.ensures.answer ∙ list_answered (renumber_of c.args.text.now) made (length c.args.out.now))
      c.renumber.ensures.list);
}
