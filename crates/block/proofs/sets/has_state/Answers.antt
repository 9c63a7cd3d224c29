-- `has_state` meets its contract. Assumes nothing.
use mathlib.Core.Path.{sym, ◌∙◌}
use borrow.Author.Tests.{le-ltb}
use Rattle.block.specs.Sets.{has_bit}
use Rattle.block.proofs.SetLaws.{state_in, state_past}
use Rattle.block.proofs.sets.has_state.Goals as goal

pub returns-then-q-lt16 : goal.returns-then-q-lt16
unfolding has_bit
returns-then-q-lt16 c = record { answer = sym (state_in _ _ c.if-q-lt16.true) }

pub returns-else-q-lt16 : goal.returns-else-q-lt16
returns-else-q-lt16 c = record { answer = le-ltb _ _ c.if-q-lt16.false ∙ sym (state_past _ _ c.if-q-lt16.false) }
