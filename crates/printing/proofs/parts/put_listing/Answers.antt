-- `printing::parts::put_listing` writes what is printed for a query, and tells its `found`. Assumes
-- nothing.
use Prim.Native.Nat.{ℕ}
use mathlib.Core.Path.{ap, ◌∙◌}
use Rattle.std.specs.declared.result.Result.{Result}
use Rattle.printing.specs.Parts.{answered}
use Rattle.resolution.specs.Listing.{listing_of}
use Rattle.resolution.proofs.Heads.{found_inside}
use Rattle.printing.proofs.Laws.{in_place_lem}
use Rattle.printing.proofs.parts.put_listing.Goals as goal

pub returns : goal.returns
returns c = record { written = in_place_lem _ c.args.out.now _ _ (c.put_answer.ensures.written ∙ ap (λ (a : Result ℕ ℕ). answered a c.listing_on-l.new.out) c.numbered.ensures.answer) (listing_of c.args.table.now c.args.i) c.listing_on-l.ensures.answer c.listing_on-l.ensures.memory; found = c.listing_on-l.ensures.found ∙ found_inside c.args.table.now c.args.i c.requires.number }
