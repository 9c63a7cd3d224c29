-- `pushed` meets its contract: the hop is put behind the others. Assumes nothing.
use native.Mathlib.Omega.{arith}
use Rattle.follow.proofs.RowLaws.{path_more}
use Rattle.follow.proofs.nodes.pushed.Goals as goal

pub returns : goal.returns
returns c = record { depth = omega arith; hops = path_more c.args.path _ _ _ (omega arith) (omega arith) (omega arith) }
