use mathlib.Core.Path.{sym}
use Rattle.graph_rows.proofs.RowLaws.{row_cells, row_none}
use Rattle.graph_rows.proofs.rows.row_at.Goals as goal

pub returns-then-table-p : goal.returns-then-table-p
returns-then-table-p c = record { answer = sym (row_none c.args.table.now c.args.p c.if-table-p.true) }

pub returns : goal.returns
returns c = record { answer = cc (row_cells c.args.table.now c.args.p) }
