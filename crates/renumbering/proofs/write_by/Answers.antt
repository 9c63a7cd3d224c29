-- `write_by` meets its contract. Assumes nothing.
use native.Mathlib.Omega.{arith}
use Rattle.renumbering.proofs.Tables.{cells_most}
use Rattle.renumbering.proofs.write_by.Goals as goal

pub write_in-requires-2 : goal.write_in-requires-2
write_in-requires-2 c = record { read = c.requires.read; list = c.requires.list; room = cells_most c.args.table.now c.requires.read; size = omega arith }
