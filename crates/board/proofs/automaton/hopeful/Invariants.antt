use mathlib.Core.Path.{◌≡◌}
use Rattle.block.specs.Block.{next_cell}
use Rattle.board.specs.Tables.{hopes_after}
use Rattle.board.proofs.automaton.hopeful.Given as goal

abbrev pub invariant-loop : goal.invariant-loop
invariant-loop l = l.set ≡ hopes_after (next_cell l.delta) l.accept l.counter
