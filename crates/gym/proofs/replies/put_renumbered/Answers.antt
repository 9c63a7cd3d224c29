-- `gym::replies::put_renumbered` puts the file that `renumber` makes, or the line of its refusal. Assumes
-- nothing.
use mathlib.Core.Path.{ap, subst, ◌∙◌}
use native.Mathlib.Omega.{arith}
use Prim.Native.Nat.{ℕ}
use lib.ListN.{length, replicate, length-replicate}
use Rattle.text_field.specs.Outcome.{Outcome}
use Rattle.renumbering.specs.Renumbering.{Renumbering, renumber_of, room_for, file_of}
use Rattle.renumbering.specs.Alone.{file_size}
use Rattle.renumbering.proofs.AloneLaws.{file_answered, size_answered}
use Rattle.printing.specs.Printed.{in_place}
use Rattle.gym.specs.Said.{reply_room}
use Rattle.gym.specs.Handed.{Replied}
use Rattle.gym.proofs.NumberedLaws.{room_enough}
use Rattle.gym.proofs.replies.put_renumbered.Goals as goal

pub returns : goal.returns
returns c = record {
  written = let made : ℕ = length (replicate {A = ℕ} 256 0) in
      subst (λ (o : Outcome Renumbering). Replied c.args.out.now c.put_made.new.out c.put_made.result (in_place reply_room (file_of o)))
      (room_enough c.args.text.now (length c.args.out.now) made (omega (arith, c.requires.room)) (omega (arith, length-replicate {A = ℕ} 256 0)))
      (c.put_made.ensures.written (file_of (room_for (length c.args.out.now) made (renumber_of c.args.text.now))) c.args.out.now c.requires.room
      (size_answered file_size _ _ c.file_answer.ensures.answer ∙ ap file_size c.renumber.ensures.answer ∙ file_answered (renumber_of c.args.text.now) (length c.args.out.now) made)
      c.renumber.ensures.file);
}
