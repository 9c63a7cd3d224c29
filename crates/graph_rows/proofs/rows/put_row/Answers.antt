use Rattle.graph_rows.proofs.PutLaws.{row_set}
use Rattle.graph_rows.proofs.rows.put_row.Goals as goal

pub returns : goal.returns
returns c = record { written = row_set c.args.table.now c.args.n c.args.k c.args.row c.copy_from_slice.new.self (cc) (search) c.requires.room }
