use Rattle.graph_rows.specs.Table.{content_meaning, item_meaning}
use Rattle.graph_file.proofs.LineLaws.{byte_put, field_none, field_put}
use Rattle.graph_file.proofs.line.line_item.Goals as goal

pub returns-in-Byte : goal.returns-in-Byte
unfolding item_meaning
returns-in-Byte c = record { answer = rw c.in-Byte.is (byte_put _ c.args.row.now _ c.args.text.now c.in-Byte.b c.take_bare.result c.take_bare.ensures.answer) }

pub returns-in_err-values-in-Field : goal.returns-in_err-values-in-Field
unfolding item_meaning
returns-in_err-values-in-Field c = record { answer = rw (c.from_residual.ensures, c.in-Field.is) (field_none _ c.args.row.now _ c.args.text.now (content_meaning c.in-Field.content) c.in-Field.c c.take_field.result c.take_field.ensures.answer c.args.row.now c.in_err-values-in-Field.was) }

pub returns-in_ok-values-in-Field : goal.returns-in_ok-values-in-Field
unfolding item_meaning
returns-in_ok-values-in-Field c = record { answer = rw c.in-Field.is (field_put _ c.args.row.now _ c.args.text.now (content_meaning c.in-Field.content) c.in-Field.c c.take_field.result c.take_field.ensures.answer _ _ _ c.in_ok-values-in-Field.was c.put_values.ensures.written) }
