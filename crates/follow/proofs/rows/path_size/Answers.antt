-- `path_size` meets its contract: its three parts. Assumes nothing.
use Rattle.follow.proofs.RowLaws.{number_most, path_most}
use Rattle.follow.specs.Steps.{path_size}
use native.Mathlib.Omega.{arith}
use Rattle.follow.proofs.rows.path_size.Goals as goal

pub overflow_add-result : goal.overflow_add-result
overflow_add-result c = omega (arith, number_most c.args.start (omega arith), path_most c.args.path)

pub overflow_add-result-2 : goal.overflow_add-result-2
overflow_add-result-2 c = omega (arith, number_most c.args.start (omega arith), path_most c.args.path)

pub returns : goal.returns
unfolding path_size
returns c = record { bytes = rw (c.number_size.ensures.digits, c.hops_size.ensures.bytes) }
