use Rattle.board.proofs.StateCells.{next_at_lem}
use Rattle.board.proofs.automaton.next_of.Goals as goal

pub returns : goal.returns
returns c = record { answer = next_at_lem c.args.delta.now c.args.q c.args.l c.requires.table c.requires.state c.requires.label }
