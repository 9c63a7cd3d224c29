-- `declaration_at` meets its contract. Assumes nothing.
use mathlib.Core.Path.{refl}
use native.Mathlib.Omega.{arith}
use Rattle.readers.proofs.Places.{row_fits, declaration_is}
use Rattle.readers.proofs.rows.declaration_at.Goals as goal

pub overflow_mul-i : goal.overflow_mul-i
overflow_mul-i c = let w = row_fits c.args.table.now c.requires.read _ c.part-rows.ensures.answer c.args.i c.requires.place in
    omega arith

pub declaration_row-requires : goal.declaration_row-requires
declaration_row-requires c = record { whole = row_fits c.args.table.now c.requires.read _ c.part-rows.ensures.answer c.args.i c.requires.place }

pub returns : goal.returns
returns c = record { declaration = declaration_is c.args.table.now c.requires.read _ c.part-rows.ensures.answer c.args.i c.requires.place _ _ refl c.declaration_row.ensures.answer }
