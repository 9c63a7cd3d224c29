-- `place` meets its contract. Assumes nothing.
use mathlib.Core.Path.{sym, ◌∙◌}
use native.Mathlib.Omega.{arith}
use Rattle.search.proofs.Cells.{place_in}
use Rattle.search.proofs.places.place.Goals as goal

pub returns : goal.returns
returns c = record { answer = c.has_state.ensures.answer ∙ sym (place_in _ _ _ (omega arith)) }
