-- `step_turn` meets its contract: past the scopes, no edge there, or the edge's turn. Assumes
-- nothing.
use Rattle.block.proofs.EdgeLaws.{edge_told}
use Rattle.comparison.proofs.StepLaws.{turn_past, turn_none, turn_edge}
use Rattle.comparison.proofs.turns.step_turn.Goals as goal

pub returns-then-s-ge-SCOPES : goal.returns-then-s-ge-SCOPES
returns-then-s-ge-SCOPES c = record { answer = turn_past c.args.block.now c.args.s c.args.label c.args.to c.if-s-ge-SCOPES.true }

pub returns-then-edges_end-p : goal.returns-then-edges_end-p
returns-then-edges_end-p c = record { answer = turn_none c.args.block.now c.args.s c.args.label c.args.to _ _ (edge_told _ _ _ _ _ c.if-s-ge-SCOPES.false c.edge_to-p.ensures.answer) c.edges_end.ensures.answer c.if-edges_end-p.true }

pub returns : goal.returns
returns c = record { answer = turn_edge c.args.block.now c.args.s c.args.label c.args.to _ _ (edge_told _ _ _ _ _ c.if-s-ge-SCOPES.false c.edge_to-p.ensures.answer) c.edges_end.ensures.answer c.if-edges_end-p.false _ _ c.edge_at.ensures.answer c.edge_turn.ensures.answer }
