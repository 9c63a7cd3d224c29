-- `as_slice` meets its contract: a depth past the array's end takes all of it. Assumes nothing.
use native.Mathlib.Omega.{arith}
use Rattle.follow.proofs.RowLaws.{held_hops}
use Rattle.follow.proofs.Path.as_slice.Goals as goal

pub returns-clause-hops : goal.returns-clause-hops
returns-clause-hops c = held_hops c.args.self.now c.min.result (omega arith) c.min.ensures
