use mathlib.Core.Path.{sym}
use lib.ListN.{length}
use Rattle.graph_table.proofs.Parts.{rows_count}
use native.Mathlib.Omega.{arith}
use Rattle.graph_table.proofs.sections.row_count.Goals as goal

pub returns : goal.returns
returns c = record { answer = sym (rows_count (length c.args.rows.now) c.args.rows.now (omega arith)) }
