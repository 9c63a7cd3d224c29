use Rattle.graph_rows.specs.Table.{layout_of}
use Rattle.graph_rows.proofs.format.layout_of.Goals as goal

pub returns : goal.returns
unfolding layout_of
returns c = record { answer = λ i. record { form = c.args.form; section = c.args.k; limit = c.most.ensures.answer i; line = c.row_place.ensures.answer i; range = c.range_place.ensures.answer i; filled = c.filled_place.ensures.answer i } }
