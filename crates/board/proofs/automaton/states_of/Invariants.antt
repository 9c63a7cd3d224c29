use Rattle.board.proofs.StateCells.{NoneFrom}
use Rattle.board.proofs.automaton.states_of.Given as goal

abbrev pub invariant-loop-i : goal.invariant-loop-i
invariant-loop-i l = NoneFrom l.block l.i
