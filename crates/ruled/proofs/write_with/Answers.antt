-- `write_with` meets its contract: either table has room for the rows. Assumes nothing.
use native.Mathlib.Omega.{arith}
use Rattle.ruled.proofs.FillLaws.{size_most}
use Rattle.ruled.proofs.write_with.Goals as goal

pub write_over-requires-2 : goal.write_over-requires-2
write_over-requires-2 c = let most = size_most c.args.table.now c.requires.read c.args.r.now in record { read = c.requires.read; room = omega arith }
