use borrow.Author.Rules.{rules}
use Rattle.block.specs.Block.{next_cell}
use Rattle.board.specs.Tables.{round_set, round_flag}
use Rattle.board.proofs.automaton.round.Goals as goal

pub returns : goal.returns
unfolding round_set
returns c = record { answer = c.states_where.ensures.answer (round_flag (next_cell c.args.delta.now) c.args.accept c.args.set) (λ q r h p. search rules) }
