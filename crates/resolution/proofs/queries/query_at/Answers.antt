-- `query_at` meets its contract. Assumes nothing.
use mathlib.Core.Path.{refl}
use native.Mathlib.Omega.{arith}
use Rattle.board.proofs.Queries.{query_below, query_whole, query_is, query_asked_lem}
use Rattle.resolution.proofs.queries.query_at.Goals as goal

pub part-queries-requires : goal.part-queries-requires
part-queries-requires c = record { made = c.requires.made; section = omega arith }

pub overflow_mul-i : goal.overflow_mul-i
overflow_mul-i c = let w = query_whole c.args.table.now c.requires.read _ c.part-queries.ensures.answer c.args.i _ refl (query_below c.args.table.now c.requires.read _ c.part-queries.ensures.answer c.args.i _ refl c.requires.number) in omega arith

pub query_row-requires : goal.query_row-requires
query_row-requires c = record { whole = query_whole c.args.table.now c.requires.read _ c.part-queries.ensures.answer c.args.i _ refl (query_below c.args.table.now c.requires.read _ c.part-queries.ensures.answer c.args.i _ refl c.requires.number) }

pub returns : goal.returns
returns c = let b = query_below c.args.table.now c.requires.read _ c.part-queries.ensures.answer c.args.i _ refl c.requires.number in record { query = query_is c.args.table.now c.requires.read _ c.part-queries.ensures.answer c.args.i _ refl b _ _ refl c.query_row.ensures.answer; asked = query_asked_lem c.args.table.now c.requires.read _ c.part-queries.ensures.answer c.args.i _ refl b _ _ refl c.query_row.ensures.answer }
