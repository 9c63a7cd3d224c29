use mathlib.Core.Path.{ap, ◌∙◌}
use Rattle.graph_table.specs.declared.rows.EdgeRow.{EdgeRow}
use Rattle.block.specs.Block.{packed_edge}
use Rattle.board.specs.Edges.{turn_number, compact}
use Rattle.board.proofs.edges.hop_cell.Goals as goal

pub returns : goal.returns
unfolding compact turn_number
returns c = record { answer = c.packed_edge.ensures.answer ∙ ap (λ (row : EdgeRow). packed_edge row.turn row.label row.to) c.edge_row-row.ensures.answer }
