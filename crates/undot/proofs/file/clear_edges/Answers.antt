-- `clear_edges` meets its contract: there is always room for fewer cells. Assumes nothing.
use Rattle.undot.proofs.FileLaws.{cleared_left}
use Rattle.undot.proofs.file.clear_edges.Goals as goal

pub returns : goal.returns
returns c = let told = cleared_left _ c.requires.read _ _ c.args.table.now c.replace.ensures.answer c.replace.ensures.memory c.requires.room.1 c.args.n in record { left = rw c.unwrap_or.ensures told.0; within = rw c.unwrap_or.ensures told.1 }
