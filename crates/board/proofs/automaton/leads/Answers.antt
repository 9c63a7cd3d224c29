use mathlib.Core.Path.{sym, ap, ◌∙◌}
use Rattle.block.specs.Sets.{has_state}
use Rattle.block.specs.Block.{next_cell}
use Rattle.board.specs.Tables.{leads_into}
use Rattle.board.proofs.StateCells.{below_hit, below_miss, below_none, leads_none}
use native.Mathlib.Omega.{arith}
use Rattle.board.proofs.automaton.leads.Goals as goal

pub returns-then-set-eq0 : goal.returns-then-set-eq0
returns-then-set-eq0 c = record { answer = sym (leads_none (next_cell c.args.delta.now) c.args.set c.args.q c.if-set-eq0.true) }

pub returns-then-has_state : goal.returns-then-has_state
unfolding leads_into
returns-then-has_state c = record { answer = sym (sym c.loop-l.invariant ∙ below_hit (λ k. has_state c.args.set (next_cell c.args.delta.now c.args.q k)) c.loop-l.l c.loop-l-test.true (ap (has_state c.args.set) (sym c.next_of.ensures.answer) ∙ sym c.has_state.ensures.answer ∙ c.if-has_state.true)) }

pub loop-l-preserved : goal.loop-l-preserved
loop-l-preserved c = sym (below_miss (λ k. has_state c.args.set (next_cell c.args.delta.now c.args.q k)) c.loop-l.l c.loop-l-test.true (ap (has_state c.args.set) (sym c.next_of.ensures.answer) ∙ sym c.has_state.ensures.answer ∙ c.if-has_state.false)) ∙ c.loop-l.invariant

pub returns : goal.returns
unfolding leads_into
returns c = record { answer = sym (sym c.loop-l.invariant ∙ below_none (λ k. has_state c.args.set (next_cell c.args.delta.now c.args.q k)) c.loop-l.l (omega arith)) }
