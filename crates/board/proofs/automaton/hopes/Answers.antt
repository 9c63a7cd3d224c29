use mathlib.Core.Path.{sym, ◌∙◌}
use Rattle.block.specs.Block.{next_cell}
use Rattle.board.proofs.StateCells.{round_accepts, round_leads}
use Rattle.board.proofs.automaton.hopes.Goals as goal

pub returns-then-has_state : goal.returns-then-has_state
returns-then-has_state c = record {
  answer = let accepts = sym c.has_state.ensures.answer ∙ c.if-has_state.true in
      c.if-has_state.true ∙ sym (round_accepts (next_cell c.args.delta.now) c.args.accept c.args.set c.args.q accepts);
}

pub returns-else-has_state : goal.returns-else-has_state
returns-else-has_state c = record {
  answer = let not_so = sym c.has_state.ensures.answer ∙ c.if-has_state.false in
      c.leads.ensures.answer ∙ sym (round_leads (next_cell c.args.delta.now) c.args.accept c.args.set c.args.q not_so);
}
