use mathlib.Core.Path.{◌∙◌}
use borrow.Author.Tests.{le-ltb}
use Rattle.graph_rows.proofs.TestLaws.{no_cells, next_cell_lem}
use Rattle.graph_rows.proofs.tested.row_comes.Goals as goal

pub returns-then-p-table : goal.returns-then-p-table
returns-then-p-table c = record { answer = next_cell_lem c.args.k c.args.p c.args.table.now c.if-p-table.true }

pub returns-else-p-table : goal.returns-else-p-table
returns-else-p-table c = record { answer = le-ltb _ _ c.if-p-table.false ∙ no_cells c.args.k c.args.p c.args.table.now c.if-p-table.false }
