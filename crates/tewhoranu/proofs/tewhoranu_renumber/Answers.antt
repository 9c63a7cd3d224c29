-- `tewhoranu_renumber` answers the number of the file that `renumber` puts out, and tells the list's
-- size beside it. Assumes nothing.
use mathlib.Core.Path.{sym, ap, subst, ◌∙◌}
use native.Mathlib.Omega.{arith}
use lib.ListN.{length}
use Rattle.text_field.specs.Outcome.{Outcome}
use Rattle.renumbering.specs.Renumbering.{Sizes, renumber_of, room_for, file_of}
use Rattle.renumbering.specs.Alone.{file_size}
use Rattle.renumbering.proofs.AloneLaws.{file_answered, size_answered}
use Rattle.tewhoranu.specs.Numbers.{written, listed_left, Sized}
use Rattle.tewhoranu.proofs.NumberLaws.{answer_sized}
use Rattle.tewhoranu.proofs.tewhoranu_renumber.Goals as goal

pub written_number-requires : goal.written_number-requires
written_number-requires c = record {
  sized = let o = room_for (length c.args.out.now) (length c.args.list.now) (renumber_of c.args.text.now) in
      subst Sized (sym (size_answered file_size _ _ c.file_answer.ensures.answer ∙ ap file_size c.renumber-a.ensures.answer ∙ file_answered (renumber_of c.args.text.now) (length c.args.out.now) (length c.args.list.now)))
      (answer_sized (file_of o) (length c.args.out.now) (omega (arith, c.well_formed.1.1.0.1)));
}

pub returns : goal.returns
returns c = record { answer = c.written_number.ensures.answer ∙ ap written (size_answered file_size _ _ c.file_answer.ensures.answer ∙ ap file_size c.renumber-a.ensures.answer); file = c.renumber-a.ensures.file; list = c.renumber-a.ensures.list; listed = c.list_bytes.ensures.answer ∙ ap (λ (o : Outcome Sizes). listed_left o c.args.listed.now) c.renumber-a.ensures.answer }
