-- `own_place` meets its contract. Assumes nothing.
use mathlib.Core.Path.{sym, ◌∙◌}
use Rattle.beginnings.proofs.Tells.{own_in, own_out}
use Rattle.beginnings.proofs.nodes.own_place.Goals as goal

pub returns-then-has_state : goal.returns-then-has_state
returns-then-has_state c = record { own = sym (own_in _ _ (sym c.has_state.ensures.answer ∙ c.if-has_state.true)) }

pub returns : goal.returns
returns c = record { own = sym (own_out _ _ (sym c.has_state.ensures.answer ∙ c.if-has_state.false)) }
