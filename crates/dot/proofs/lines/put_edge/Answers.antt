-- `put_edge` meets its contract. Assumes nothing.
use Rattle.text_field.proofs.WritingLaws.{◌then◌}
use Rattle.dot.specs.Drawing.{edge_line}
use Rattle.dot.proofs.lines.put_edge.Goals as goal

pub returns : goal.returns
unfolding edge_line
returns c = record { wrote = c.put_number.ensures.wrote then c.put_bytes.ensures.wrote then c.put_number-2.ensures.wrote then c.put_bytes-2.ensures.wrote then c.put.ensures.wrote then c.put_bytes-3.ensures.wrote }
