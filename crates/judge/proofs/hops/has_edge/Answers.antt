-- `has_edge` meets its contract: the edge's number is one of the scope's. Assumes nothing.
use Rattle.judge.proofs.HopLaws.{edge_there}
use Rattle.block.proofs.EdgeLaws.{edge_told}
use Rattle.judge.proofs.hops.has_edge.Goals as goal

pub returns : goal.returns
returns c = record { answer = edge_there c.args.block.now c.args.s c.args.label c.args.to _ _ (edge_told _ _ _ _ _ c.requires.scope c.edge_to.ensures.answer) c.edges_end.ensures.answer }
