-- `is_edge` meets its contract. Assumes nothing.
use borrow.Author.Tests.{eq-eqb, ne_eqb}
use Rattle.block.specs.Block.{hop_of}
use Rattle.block.proofs.edges.is_edge.Goals as goal

pub returns-then-edge_label-label : goal.returns-then-edge_label-label
unfolding hop_of
returns-then-edge_label-label c = record { answer = rw (← c.edge_label.ensures.answer, ← c.edge_scope.ensures.answer, eq-eqb _ _ c.if-edge_label-label.true) }

pub returns-else-edge_label-label : goal.returns-else-edge_label-label
unfolding hop_of
returns-else-edge_label-label c = record { answer = rw (← c.edge_label.ensures.answer, ne_eqb _ _ c.if-edge_label-label.false) }
