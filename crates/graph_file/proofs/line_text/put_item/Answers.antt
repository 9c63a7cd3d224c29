use Rattle.graph_rows.specs.Table.{item_meaning}
use Rattle.graph_file.specs.Line.{item_text}
use Rattle.graph_file.proofs.line_text.put_item.Goals as goal

pub returns-in-Byte : goal.returns-in-Byte
unfolding item_text item_meaning
returns-in-Byte c = record { wrote = rw c.in-Byte.is c.put.ensures.wrote }

pub returns-in-Field : goal.returns-in-Field
unfolding item_text item_meaning
returns-in-Field c = record { wrote = rw c.in-Field.is (rw (c.get_or-v.ensures.answer, c.get_or-w.ensures.answer, c.from-c.ensures) at c.put_field.ensures.wrote) }
