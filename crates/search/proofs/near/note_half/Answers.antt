-- `note_half` is safe: eight flags times a byte fit. Assumes nothing.
use native.Mathlib.Omega.{arith}
use Rattle.search.proofs.Cells.{bytes_times}
use Rattle.search.proofs.near.note_half.Goals as goal

pub overflow_mul-out : goal.overflow_mul-out
overflow_mul-out c = omega (arith, bytes_times c.bytes_of.result c.args.d c.bytes_of.ensures.small (omega arith))
