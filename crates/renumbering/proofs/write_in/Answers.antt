-- `write_in` meets its contract. Assumes nothing.
use Prim.Native.Nat.{ℕ}
use lib.ListN.{length-replicate}
use Rattle.renumbering.proofs.Tables.{formed, over_count, over_written}
use Rattle.renumbering.proofs.write_in.Goals as goal

pub renumber_table-requires : goal.renumber_table-requires
renumber_table-requires g c = record { formed = formed c.args.table.now c.requires.read; room = rw (length-replicate {A = ℕ} g.row.CELLS 0) c.requires.room }

pub slice_bounds-write-end : goal.slice_bounds-write-end
slice_bounds-write-end g c = over_count c.args.table.now c.requires.read c.args.list.now c.requires.list _ _ c.renumber_table.ensures.memory

pub returns : goal.returns
returns g c = let told = over_written c.args.table.now c.requires.read c.args.list.now c.requires.list _ _ c.renumber_table.ensures.memory _ c.args.out.now _ (c.write.ensures.answer, c.write.ensures.memory) in record { answer = told.0; memory = told.1 }
