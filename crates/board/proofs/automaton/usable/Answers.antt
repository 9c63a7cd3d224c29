use mathlib.Core.Path.{sym, ap, ◌∙◌}
use Rattle.block.specs.Sets.{has_state}
use Rattle.block.specs.Block.{next_cell, accept_set}
use Rattle.board.proofs.StateCells.{usable_stop, usable_label}
use Rattle.board.proofs.automaton.usable.Goals as goal

pub returns-then-end-eq0 : goal.returns-then-end-eq0
returns-then-end-eq0 c = record { answer = c.has_state.ensures.answer ∙ ap (λ a. has_state a c.args.q) c.accept_set.ensures.answer ∙ sym (usable_stop (next_cell c.args.block.now) (accept_set c.args.block.now) c.args.hopes c.args.q c.args.end c.if-end-eq0.true) }

pub returns : goal.returns
returns c = record { answer = c.has_state-2.ensures.answer ∙ ap (has_state c.args.hopes) c.next_state.ensures.answer ∙ sym (usable_label (next_cell c.args.block.now) (accept_set c.args.block.now) c.args.hopes c.args.q c.args.end c.if-end-eq0.false) }
