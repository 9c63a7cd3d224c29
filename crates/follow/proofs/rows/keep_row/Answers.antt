-- `keep_row` meets its contract: what does not fit is not written. Assumes nothing.
use mathlib.Core.Path.{sym, ◌∙◌}
use mathlib.Core.Logic.{inl, inr}
use Rattle.text_field.proofs.WritingLaws.{written}
use Rattle.std.proofs.Common.{rules}
use Rattle.follow.proofs.TakeLaws.{fits_true, fits_false, keep_yes, keep_no}
use Rattle.follow.proofs.rows.keep_row.Goals.{then-not-is_room-via-then-not-is_room, then-not-is_room-via-else-not-is_room+then-not-is_room-2}
use Rattle.follow.proofs.rows.keep_row.Goals as goal

pub returns-then-not-is_room : goal.returns-then-not-is_room
returns-then-not-is_room c = elim c.then-not-is_room.branch [
  | then-not-is_room-via-then-not-is_room w ↦ record { kept = sym (keep_no _ _ _ _ (inl (rw c.requires.size at (fits_false _ _ _ (sym c.is_room.ensures.room ∙ w.if-not-is_room.true))))) }
  | then-not-is_room-via-else-not-is_room+then-not-is_room-2 w ↦ record { kept = sym (keep_no _ _ _ _ (inr (rw c.requires.size at (fits_false _ _ _ (sym w.is_room-else-not-is_room.ensures.room ∙ w.if-not-is_room-2.true))))) }
]

pub returns : goal.returns
returns c =
    let w = c.put_row.ensures.wrote
    in let m = written _ _ _ _ c.at.ensures.starts w
    in let kept = fits_true _ _ _ (sym c.is_room.ensures.room ∙ c.if-not-is_room.false)
    in let room = fits_true _ _ _ (sym c.is_room-else-not-is_room.ensures.room ∙ c.if-not-is_room-2.false)
    in record { kept = search (rules, w.same, m, sym (keep_yes _ _ _ _ (rw c.requires.size at kept) (rw c.requires.size at room))) }
