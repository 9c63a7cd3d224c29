-- `summary_by` meets its contract. Assumes nothing.
use lib.ListN.{replicate, length-replicate}
use Prim.Native.Nat.{ℕ}
use lib.ListN.{length-replicate}
use Rattle.text_field.specs.Refusal.{number_of}
use Rattle.text_field.specs.Answer.{answer_of}
use Rattle.resolution.specs.Figures.{figures_text}
use Rattle.resolution.proofs.Counts.{summary_room}
use Rattle.resolution.proofs.Buffers.{own_short, own_within, own_whole}
use Rattle.resolution.proofs.sums.summary_by.Goals as goal

pub returns-then-out-k : goal.returns-then-out-k
unfolding answer_of number_of
returns-then-out-k c = let told = own_short (figures_text c.args.c) (replicate 64 0) _ _ c.put_summary-k.ensures.written (summary_room c.args.c c.requires.few (replicate 64 0) (length-replicate {A = ℕ} 64 0)) c.args.out.now c.if-out-k.true in record { answer = told.0; memory = told.1 }

pub slice_bounds-text-end : goal.slice_bounds-text-end
slice_bounds-text-end c = (own_within (figures_text c.args.c) (replicate 64 0) _ _ c.put_summary-k.ensures.written (summary_room c.args.c c.requires.few (replicate 64 0) (length-replicate {A = ℕ} 64 0))).0

pub slice_bounds-put_bytes-end : goal.slice_bounds-put_bytes-end
slice_bounds-put_bytes-end c = (own_within (figures_text c.args.c) (replicate 64 0) _ _ c.put_summary-k.ensures.written (summary_room c.args.c c.requires.few (replicate 64 0) (length-replicate {A = ℕ} 64 0))).1

pub returns : goal.returns
unfolding answer_of
returns c = let told = own_whole (figures_text c.args.c) (replicate 64 0) _ _ c.put_summary-k.ensures.written (summary_room c.args.c c.requires.few (replicate 64 0) (length-replicate {A = ℕ} 64 0)) c.args.out.now _ _ c.if-out-k.false c.put_bytes.ensures.written in record { answer = told.0; memory = told.1 }
