-- `printing::print_summary` hands over the whole summary, where it is due. Assumes nothing.
use native.Mathlib.Omega.{arith}
use Rattle.printing.proofs.Laws.{summary_stands, summary_left_in, stands_due}
use Rattle.printing.proofs.print_summary.Goals as goal

pub slice_bounds-emit-end : goal.slice_bounds-emit-end
slice_bounds-emit-end c = let s = summary_stands c.args.c _ _ _ c.requires.room c.put_summary-k.ensures.written in s.within

pub slice_bounds-emit-end-2 : goal.slice_bounds-emit-end-2
slice_bounds-emit-end-2 c = let s = summary_stands c.args.c _ _ _ c.requires.room c.put_summary-k.ensures.written in s.taken

pub emit-requires : goal.emit-requires
emit-requires c = record { due = let s = summary_stands c.args.c _ _ _ c.requires.room c.put_summary-k.ensures.written in stands_due c.args.text.now c.args.sent _ _ _ s c.requires.due }

pub returns : goal.returns
returns c = let s = summary_stands c.args.c _ _ _ c.requires.room c.put_summary-k.ensures.written in record { answer = omega arith; memory = summary_left_in c.args.c _ _ _ c.requires.room c.put_summary-k.ensures.written }
