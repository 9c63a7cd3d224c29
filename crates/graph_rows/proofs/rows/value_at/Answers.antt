use mathlib.Core.Path.{sym}
use Rattle.graph_rows.proofs.RowLaws.{value_cell, value_none}
use Rattle.graph_rows.proofs.rows.value_at.Goals as goal

pub returns-then-c-lt-VALUES : goal.returns-then-c-lt-VALUES
returns-then-c-lt-VALUES c = record { answer = sym (value_cell c.args.table.now c.args.p c.args.c c.if-c-lt-VALUES.true) }

pub returns-else-c-lt-VALUES : goal.returns-else-c-lt-VALUES
returns-else-c-lt-VALUES c = record { answer = sym (value_none c.args.table.now c.args.p c.args.c c.if-c-lt-VALUES.false) }
