-- `is_asked` meets its contract: first the scope, then the state. Assumes nothing.
use mathlib.Core.Path.{sym, ◌∙◌}
use Rattle.block.specs.Sets.{places_of}
use Rattle.block.proofs.SetLaws.{places_no_scope}
use Rattle.follow.proofs.nodes.is_asked.Goals as goal

pub returns-then-has : goal.returns-then-has
unfolding places_of
returns-then-has c = record { answer = c.has_state.ensures.answer ∙ sym (rw (sym c.has.ensures.answer ∙ c.if-has.true)) }

pub returns-else-has : goal.returns-else-has
returns-else-has c = record { answer = c.if-has.false ∙ sym (places_no_scope c.args.aim.scopes c.args.aim.states c.args.n.scope c.args.n.state (sym c.has.ensures.answer ∙ c.if-has.false)) }
