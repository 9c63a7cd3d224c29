-- `barred` meets its contract: what accepts is cut where stopping is preferred; no state is in the
-- empty set. Assumes nothing.
use mathlib.Core.Path.{sym, ◌∙◌}
use mathlib.Core.Bool.{false≢true}
use Rattle.block.proofs.SetLaws.{states_none}
use Rattle.search.proofs.Closing.{way_cut}
use Rattle.search.proofs.closure.barred.Goals as goal

pub returns-then-pair : goal.returns-then-pair
returns-then-pair c = record { cut = λ q t is h. way_cut _ _ _ q t (sym c.has.ensures.answer ∙ c.if-has.true) (rw is (sym c.pair.ensures.answer ∙ c.if-pair.true)) (rw c.accept_set.ensures.answer at h) }

pub returns-else-has : goal.returns-else-has
returns-else-has c = record { cut = λ q t is h. absurd (false≢true (sym (states_none q) ∙ h)) }
