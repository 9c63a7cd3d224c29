-- `in_form` meets its contract: what is left of the text is told of what is left of the queries.
-- Assumes nothing.
use mathlib.Core.Path.{refl, sym, ap, ◌∙◌}
use native.Mathlib.Omega.{arith}
use Rattle.resolution.proofs.Asks.{asked_small}
use Rattle.told.specs.Apart.{told_of}
use Rattle.told.specs.Steps.{listing_at, is_done}
use Rattle.told.proofs.ListingLaws.{listing_at_lem, listing_absent, told_absent, told_on, told_end}
use Rattle.told.proofs.whole.in_form.Goals as goal

pub loop-i-init : goal.loop-i-init
unfolding told_of
loop-i-init c = refl

pub query_at-requires : goal.query_at-requires
query_at-requires c = record { read = c.requires.read; made = c.requires.made; number = omega arith }

pub read_listing-requires : goal.read_listing-requires
read_listing-requires c = record { scope = asked_small c.args.table.now _ c.query_at.ensures.asked; kind = c.query_at.ensures.asked.kind }

pub returns-in_default : goal.returns-in_default
unfolding is_done
returns-in_default c = record { answer = ap is_done (sym (told_absent c.args.table.now c.args.lists.now c.loop-i.i c.loop-i.at (omega arith) _ c.query_at.ensures.query _ c.form_of-form.ensures.answer (listing_absent _ _ _ c.args.lists.now _ _ c.read_listing.ensures.taken c.in_default.is))) ∙ c.loop-i.invariant }

pub loop-i-preserved : goal.loop-i-preserved
loop-i-preserved c = told_on c.args.table.now c.args.lists.now c.loop-i.i c.loop-i.at (omega arith) _ c.query_at.ensures.query _ c.form_of-form.ensures.answer (listing_at c.args.lists.now c.in-Some.l) c.in-Some.l.next (listing_at_lem _ _ _ c.args.lists.now _ _ c.read_listing.ensures.taken c.in-Some.l c.in-Some.is) ∙ c.loop-i.invariant

pub returns : goal.returns
returns c = record { answer = told_end c.args.table.now c.args.lists.now c.loop-i.i c.loop-i.at (omega arith) ∙ c.loop-i.invariant }
