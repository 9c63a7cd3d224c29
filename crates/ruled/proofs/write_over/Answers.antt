-- `write_over` meets its contract: the filled table is written. Assumes nothing.
use mathlib.Core.Path.{sym}
use lib.Seq.{length-take-le}
use Rattle.ruled.proofs.FillLaws.{put_within, written_as}
use Rattle.ruled.proofs.write_over.Goals as goal

pub slice_bounds-write-end : goal.slice_bounds-write-end
slice_bounds-write-end c = put_within c.args.table.now c.requires.read c.args.r.now c.args.own.now _ _ c.requires.room c.fill-n.ensures.written

pub slice_bounds-write-end-2 : goal.slice_bounds-write-end-2
slice_bounds-write-end-2 c = sym (length-take-le _ _ (put_within c.args.table.now c.requires.read c.args.r.now c.args.own.now _ _ c.requires.room c.fill-n.ensures.written))

pub returns : goal.returns
returns c = let told = written_as c.args.table.now c.requires.read c.args.r.now c.args.own.now _ _ c.requires.room c.fill-n.ensures.written _ _ c.args.out.now (c.write.ensures.answer, c.write.ensures.memory) in record { answer = told.0; memory = told.1 }
