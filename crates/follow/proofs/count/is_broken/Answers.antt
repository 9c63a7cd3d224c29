-- `is_broken` meets its contract: it is done, and there are not several. Assumes nothing.
use mathlib.Core.Path.{sym, ap, ◌∙◌}
use mathlib.Core.Bool.{not}
use Rattle.follow.proofs.TakeLaws.{broken_on, broken_done}
use Rattle.follow.proofs.count.is_broken.Goals as goal

pub returns-then-is_done : goal.returns-then-is_done
returns-then-is_done c = record { broken = ap not c.is_several.ensures.answer ∙ sym (broken_done _ _ (sym c.is_done.ensures.done ∙ c.if-is_done.true)) }

pub returns-else-is_done : goal.returns-else-is_done
returns-else-is_done c = record { broken = c.if-is_done.false ∙ sym (broken_on _ _ (sym c.is_done.ensures.done ∙ c.if-is_done.false)) }
