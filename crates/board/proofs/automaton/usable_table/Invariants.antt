use Rattle.block.specs.Block.{next_cell, accept_set}
use Rattle.board.specs.Tables.{usable_states, hopeful_set}
use Rattle.board.proofs.Fill.{Filled}
use Rattle.board.proofs.automaton.usable_table.Given as goal

abbrev pub invariant-loop-end : goal.invariant-loop-end
invariant-loop-end l = Filled (usable_states (next_cell l.block) (accept_set l.block) (hopeful_set (next_cell l.block) (accept_set l.block))) 9 l.end-counter l.set-items
