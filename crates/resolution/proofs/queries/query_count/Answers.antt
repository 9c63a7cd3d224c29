-- `query_count` meets its contract. Assumes nothing.
use native.Mathlib.Omega.{arith}
use Rattle.board.proofs.Queries.{count_is}
use Rattle.resolution.proofs.queries.query_count.Goals as goal

pub part-requires : goal.part-requires
part-requires c = record { made = c.requires.made; section = omega arith }

pub returns : goal.returns
returns c = record { answer = count_is c.args.table.now c.requires.read _ c.part.ensures.answer 0 _ c.row_count.ensures.answer }
