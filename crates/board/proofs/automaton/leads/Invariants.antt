use mathlib.Core.Path.{◌≡◌}
use Rattle.scope_graph.specs.Computed.{any_below}
use Rattle.block.specs.Sets.{has_state}
use Rattle.block.specs.Block.{next_cell}
use Rattle.board.proofs.automaton.leads.Given as goal

abbrev pub invariant-loop-l : goal.invariant-loop-l
invariant-loop-l l = any_below (λ k. has_state l.set (next_cell l.delta l.q k)) l.l ≡ any_below (λ k. has_state l.set (next_cell l.delta l.q k)) 8
