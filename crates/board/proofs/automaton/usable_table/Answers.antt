use Prim.Native.Nat.{ℕ}
use mathlib.Core.Path.{ap, ap₂, ◌∙◌}
use lib.ListN.{length-replicate}
use borrow.Author.Rules.{rules}
use Rattle.block.specs.Block.{next_cell, accept_set}
use Rattle.board.specs.Tables.{usable_flag, usable_states, hopeful_set}
use Rattle.board.proofs.StateCells.{next_first}
use Rattle.board.proofs.Fill.{filled_none, filled_next, filled_all}
use native.Mathlib.Omega.{arith}
use Rattle.board.proofs.automaton.usable_table.Goals as goal

pub loop-end-init : goal.loop-end-init
loop-end-init c = filled_none _ 9 _ (length-replicate {A = ℕ} 9 0)

pub loop-end-preserved : goal.loop-end-preserved
unfolding usable_states
loop-end-preserved c = filled_next _ _ _ _ _ c.loop-end.invariant (omega arith)
    (c.states_where.ensures.answer (λ q. usable_flag (next_cell c.args.block.now) (accept_set c.args.block.now) c.hopeful-hopes.result q c.loop-end.end-counter) (λ q r h p. search rules)
    ∙ ap (λ (h : ℕ). usable_states (next_cell c.args.block.now) (accept_set c.args.block.now) h c.loop-end.end-counter)
    (c.hopeful-hopes.ensures.answer ∙ ap₂ hopeful_set (next_first c.args.block.now) c.accept_set.ensures.answer))

pub returns : goal.returns
returns c = record { answer = filled_all _ _ _ _ c.loop-end.invariant (omega arith) }
