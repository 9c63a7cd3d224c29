-- `dot_of` meets its contract. The drawing fits the code's own memory, and is copied if it fits the
-- lent one. Assumes nothing.
use lib.ListN.{replicate}
use Rattle.text_field.specs.Refusal.{number_of}
use Rattle.text_field.specs.Answer.{answer_of}
use Rattle.resolution.proofs.Buffers.{own_short, own_within, own_whole}
use Rattle.dot.specs.Drawing.{drawing_of}
use Rattle.dot.proofs.Found.{drawing_room}
use Rattle.dot.proofs.drawing.dot_of.Goals as goal

pub returns-then-out-n : goal.returns-then-out-n
unfolding answer_of number_of
returns-then-out-n c = let told = own_short (drawing_of c.args.table.now) (replicate 11556 0) _ _ c.put_drawing-n.ensures.written (drawing_room c.args.table.now c.requires.read) c.args.out.now c.if-out-n.true in record { answer = told.0; memory = told.1 }

pub slice_bounds-lines-end : goal.slice_bounds-lines-end
slice_bounds-lines-end c = (own_within (drawing_of c.args.table.now) (replicate 11556 0) _ _ c.put_drawing-n.ensures.written (drawing_room c.args.table.now c.requires.read)).0

pub slice_bounds-put_bytes-end : goal.slice_bounds-put_bytes-end
slice_bounds-put_bytes-end c = (own_within (drawing_of c.args.table.now) (replicate 11556 0) _ _ c.put_drawing-n.ensures.written (drawing_room c.args.table.now c.requires.read)).1

pub returns : goal.returns
unfolding answer_of
returns c = let told = own_whole (drawing_of c.args.table.now) (replicate 11556 0) _ _ c.put_drawing-n.ensures.written (drawing_room c.args.table.now c.requires.read) c.args.out.now _ _ c.if-out-n.false c.put_bytes.ensures.written in record { answer = told.0; memory = told.1 }
