-- `put_place` meets its contract: a byte passes a limit of 0. Assumes nothing.
use Rattle.follow.proofs.TakeLaws.{take_done, answer_place}
use Rattle.follow.specs.Walk.{place_row}
use native.Mathlib.Omega.{arith}
use mathlib.Core.Path.{sym, ◌∙◌}
use Rattle.follow.proofs.count.put_place.Goals as goal

pub returns-then-is_done : goal.returns-then-is_done
returns-then-is_done c = record { counted = λ out. sym (take_done _ (out, _) place_row (sym c.is_done.ensures.done ∙ c.if-is_done.true)) }

pub returns : goal.returns
returns c = record { counted = λ out. answer_place _ out _ place_row 0 _ _ (sym c.is_done.ensures.done ∙ c.if-is_done.false) c.one_more.ensures.counted c.note.ensures.noted c.requires.no_room (omega arith) }
