use Rattle.graph_rows.specs.LookBack.{edge_key}
use Rattle.graph_rows.proofs.apart.edge_key.Goals as goal

pub returns : goal.returns
unfolding edge_key
returns c = record { answer = λ i. (c.value_at.ensures.answer i, c.value_at-2.ensures.answer i, c.value_at-3.ensures.answer i, c.value_at-4.ensures.answer i) }
