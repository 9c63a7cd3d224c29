-- `gym::print_reply` hands over the whole reply: it fits the room lent for it. Assumes nothing.
use Prim.Native.Nat.{ℕ}
use native.Mathlib.Omega.{arith}
use lib.ListN.{length-replicate}
use Rattle.gym.specs.Said.{reply_room}
use Rattle.gym.specs.Handed.{reply_said}
use Rattle.gym.proofs.ReplyLaws.{reply_stands, reply_due}
use Rattle.gym.proofs.print_reply.Goals as goal

pub put_reply-size-requires : goal.put_reply-size-requires
put_reply-size-requires c = record { room = length-replicate {A = ℕ} reply_room 0 }

pub slice_bounds-out-end : goal.slice_bounds-out-end
slice_bounds-out-end c = let due = reply_said c.args.q c.args.given in (reply_stands due _ _ _ (length-replicate {A = ℕ} reply_room 0) c.put_reply-size.ensures.written).within

pub slice_bounds-emit-end : goal.slice_bounds-emit-end
slice_bounds-emit-end c = let due = reply_said c.args.q c.args.given in (reply_stands due _ _ _ (length-replicate {A = ℕ} reply_room 0) c.put_reply-size.ensures.written).taken

pub emit-requires : goal.emit-requires
emit-requires c = record { due = let due = reply_said c.args.q c.args.given in reply_due due _ _ _ (length-replicate {A = ℕ} reply_room 0) c.put_reply-size.ensures.written _ (c.stream_of.ensures.answer _ _ _ _) }

pub returns : goal.returns
returns c = record { answer = let due = reply_said c.args.q c.args.given in let s = reply_stands due _ _ _ (length-replicate {A = ℕ} reply_room 0) c.put_reply-size.ensures.written in omega arith }
