-- `printing::print_parts` hands over every listing, in turn, and then the summary. The loop's
-- invariant: the buffer has the room that is lent, the figures are those of the queries listed so
-- far, and what is left of the parts is due at the place reached, and ends where the output does.
-- What a listing leaves in the buffer does not matter to the next. Assumes nothing.
use Prim.Native.Nat.{ℕ, ◌≤◌}
use mathlib.Core.Path.{◌≡◌, sym, ◌∙◌}
use native.Mathlib.Omega.{arith}
use borrow.Author.Rules.{rules}
use lib.ListN.{length-replicate}
use Rattle.resolution.specs.Figures.{no_figures}
use Rattle.resolution.proofs.Counts.{queries_few, counted_none, counted_turn, counted_all, figures_few}
use Rattle.printing.specs.Printed.{lent}
use Rattle.printing.proofs.Laws.{size_start, size_turn, size_last, due_start, due_part, due_turn, due_last}
use Rattle.printing.proofs.print_parts.Goals as goal

pub query_count-n-requires : goal.query_count-n-requires
query_count-n-requires c = record { read = c.requires.read; made = c.requires.made }

pub loop-i-init : goal.loop-i-init
unfolding no_figures
loop-i-init c = let z = size_start c.args.table.now c.requires.read _ c.query_count-n.ensures.answer in (length-replicate {A = ℕ} lent 0, counted_none c.args.table.now _ (search rules), omega arith, due_start c.args.table.now c.requires.read _ c.query_count-n.ensures.answer c.args.text.now c.args.sent c.requires.due)

pub slice_bounds-print_listing-end : goal.slice_bounds-print_listing-end
slice_bounds-print_listing-end c = sym c.loop-i.invariant.0

pub print_listing-p-requires : goal.print_listing-p-requires
print_listing-p-requires c = record { read = c.requires.read; made = c.requires.made; number = omega arith; room = c.loop-i.invariant.0; due = due_part c.args.table.now c.requires.read c.query_count-n.result c.query_count-n.ensures.answer c.args.text.now c.loop-i.place c.loop-i.i (omega arith) c.loop-i.invariant.3 }

pub counted-c-requires : goal.counted-c-requires
counted-c-requires c = record { counted = let q = queries_few c.args.table.now c.requires.read in omega arith }

pub loop-i-preserved : goal.loop-i-preserved
loop-i-preserved c = let h : c.loop-i.i ≤ c.query_count-n.result = omega arith in let t = size_turn c.args.table.now c.requires.read c.query_count-n.result c.query_count-n.ensures.answer c.loop-i.i h in (c.print_listing-p.auto.out ∙ c.loop-i.invariant.0, counted_turn c.args.table.now c.loop-i.i c.loop-i.c _ _ (omega arith) c.print_listing-p.ensures.found c.counted-c.ensures.answer c.loop-i.invariant.1, omega arith, due_turn c.args.table.now c.requires.read c.query_count-n.result c.query_count-n.ensures.answer c.args.text.now c.loop-i.place c.loop-i.i h c.loop-i.invariant.3 _ c.print_listing-p.ensures.place)

pub slice_bounds-print_summary-end : goal.slice_bounds-print_summary-end
slice_bounds-print_summary-end c = sym c.loop-i.invariant.0

pub print_summary-requires : goal.print_summary-requires
print_summary-requires c = let h : c.loop-i.i ≡ c.query_count-n.result = omega arith in let f = counted_all c.args.table.now c.loop-i.i c.loop-i.c (omega arith) c.loop-i.invariant.1 in record { few = figures_few c.args.table.now c.loop-i.c f c.requires.read; room = c.loop-i.invariant.0; due = due_last c.args.table.now c.requires.read c.query_count-n.result c.query_count-n.ensures.answer c.loop-i.c f c.loop-i.i h c.args.text.now c.loop-i.place c.loop-i.invariant.3 }

pub returns : goal.returns
returns c = record { answer = let h : c.loop-i.i ≡ c.query_count-n.result = omega arith in let f = counted_all c.args.table.now c.loop-i.i c.loop-i.c (omega arith) c.loop-i.invariant.1 in let s = size_last c.args.table.now c.requires.read c.query_count-n.result c.query_count-n.ensures.answer c.loop-i.c f c.loop-i.i h in omega arith }
