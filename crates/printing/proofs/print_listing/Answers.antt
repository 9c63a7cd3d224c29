-- `printing::print_listing` hands over the whole listing, where it is due: it fits the bytes lent
-- for it, whatever stood in them. Assumes nothing.
use native.Mathlib.Omega.{arith}
use Rattle.printing.proofs.Laws.{listing_stands, listing_left, stands_due}
use Rattle.printing.proofs.print_listing.Goals as goal

pub slice_bounds-emit-end : goal.slice_bounds-emit-end
slice_bounds-emit-end c = let s = listing_stands c.args.table.now c.args.i c.requires.number _ _ _ c.requires.room c.put_listing-p.ensures.written in s.within

pub slice_bounds-emit-end-2 : goal.slice_bounds-emit-end-2
slice_bounds-emit-end-2 c = let s = listing_stands c.args.table.now c.args.i c.requires.number _ _ _ c.requires.room c.put_listing-p.ensures.written in s.taken

pub emit-requires : goal.emit-requires
emit-requires c = record { due = let s = listing_stands c.args.table.now c.args.i c.requires.number _ _ _ c.requires.room c.put_listing-p.ensures.written in stands_due c.args.text.now c.args.sent _ _ _ s c.requires.due }

pub returns : goal.returns
returns c = let s = listing_stands c.args.table.now c.args.i c.requires.number _ _ _ c.requires.room c.put_listing-p.ensures.written in record { place = omega arith; found = c.put_listing-p.ensures.found; memory = listing_left c.args.table.now c.args.i c.requires.number _ _ _ c.requires.room c.put_listing-p.ensures.written }
