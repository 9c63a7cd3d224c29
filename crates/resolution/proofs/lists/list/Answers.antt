-- `list` meets its contract: the rows alone do not fit, or the head does not fit what they leave, or both
-- are written, the rows from those that were kept or by another walk. Assumes nothing.
use Prim.Native.Nat.{ℕ}
use mathlib.Core.Path.{refl, sym, ap}
use native.Mathlib.Omega.{arith}
use lib.Seq.{length-take-le}
use lib.ListN.{replicate, length-replicate}
use Rattle.text_field.specs.Refusal.{number_of}
use Rattle.text_field.specs.Answer.{answer_of}
use Rattle.follow.specs.Tally.{State}
use Rattle.resolution.proofs.Heads.{list_over, rows_room, head_within, list_no_head, list_kept, list_again}
use Rattle.resolution.proofs.lists.list.Goals as goal

pub found_by-found-requires : goal.found_by-found-requires
found_by-found-requires c = record { ready = c.requires.ready; tallied = (_, sym (ap (λ (s : State). s.1) c.take_entries-t.ensures.taken)) }

pub returns-then-t : goal.returns-then-t
unfolding answer_of number_of
returns-then-t c = let x = list_over c.args.table.now c.args.block.now c.args.ask.now c.requires.ready c.args.out.now _ _ refl (_, _) c.take_entries-t.ensures.taken c.if-t.true in record { answer = x.0; memory = x.1; found = c.found_by-found.ensures.answer }

pub put_heading-h-requires : goal.put_heading-h-requires
put_heading-h-requires c = record { ready = c.requires.ready; found = c.found_by-found.ensures.answer }

pub overflow_sub-room : goal.overflow_sub-room
overflow_sub-room c = rows_room c.args.table.now c.args.block.now c.args.ask.now c.requires.ready c.args.out.now _ _ refl (_, _) c.take_entries-t.ensures.taken c.if-t.false

pub returns-then-room-n : goal.returns-then-room-n
unfolding answer_of number_of
returns-then-room-n c = let x = list_no_head c.args.table.now c.args.block.now c.args.ask.now c.requires.ready c.args.out.now _ _ refl (_, _) c.take_entries-t.ensures.taken c.if-t.false (replicate 128 0) _ _ (length-replicate {A = ℕ} 128 0) c.put_heading-h.ensures.written c.if-room-n.true in record { answer = x.0; memory = x.1; found = c.found_by-found.ensures.answer }

pub slice_bounds-head-end : goal.slice_bounds-head-end
slice_bounds-head-end c = (head_within c.args.table.now c.args.block.now c.args.ask.now c.requires.ready c.args.out.now _ _ refl (_, _) c.take_entries-t.ensures.taken c.if-t.false (replicate 128 0) _ _ (length-replicate {A = ℕ} 128 0) c.put_heading-h.ensures.written).0

pub slice_bounds-put_bytes-end : goal.slice_bounds-put_bytes-end
slice_bounds-put_bytes-end c = (head_within c.args.table.now c.args.block.now c.args.ask.now c.requires.ready c.args.out.now _ _ refl (_, _) c.take_entries-t.ensures.taken c.if-t.false (replicate 128 0) _ _ (length-replicate {A = ℕ} 128 0) c.put_heading-h.ensures.written).1

pub slice_bounds-put_bytes-end-then-n-le-KEPT : goal.slice_bounds-put_bytes-end-then-n-le-KEPT
slice_bounds-put_bytes-end-then-n-le-KEPT c = sym (length-take-le _ _ (omega arith))

pub returns-then-n-le-KEPT : goal.returns-then-n-le-KEPT
unfolding answer_of
returns-then-n-le-KEPT c = let x = list_kept c.args.table.now c.args.block.now c.args.ask.now c.requires.ready c.args.out.now _ _ refl (_, _) c.take_entries-t.ensures.taken c.if-t.false (replicate 128 0) _ _ (length-replicate {A = ℕ} 128 0) c.put_heading-h.ensures.written c.if-room-n.false (_, _) c.put_bytes.ensures.written (omega arith) (omega arith) (_, _) c.put_bytes-then-n-le-KEPT.ensures.written in record { answer = x.0; memory = x.1; found = c.found_by-found.ensures.answer }

pub returns : goal.returns
unfolding answer_of
returns c = let x = list_again c.args.table.now c.args.block.now c.args.ask.now c.requires.ready c.args.out.now _ _ refl (_, _) c.take_entries-t.ensures.taken c.if-t.false (replicate 128 0) _ _ (length-replicate {A = ℕ} 128 0) c.put_heading-h.ensures.written c.if-room-n.false (_, _) c.put_bytes.ensures.written _ refl refl (_, _) c.take_entries.ensures.taken in record { answer = x.0; memory = x.1; found = c.found_by-found.ensures.answer }
