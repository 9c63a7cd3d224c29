-- `put_cells` meets its contract: the cells are copied. Assumes nothing.
use Rattle.ruled.proofs.PutLaws.{put_copied}
use Rattle.ruled.proofs.put.put_cells.Goals as goal

pub returns-clause-written : goal.returns-clause-written
returns-clause-written c = put_copied c.args.table.now c.args.cells.now c.copy_from_slice.new.self c.args.n c.copy_from_slice.ensures.after c.requires.room
