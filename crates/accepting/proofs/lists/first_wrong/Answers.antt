-- `first_wrong` meets its contract: the listings that are left give the verdict on all. Assumes
-- nothing.
use mathlib.Core.Path.{sym, ◌∙◌}
use native.Mathlib.Omega.{arith}
use Rattle.resolution.proofs.Asks.{asked_small}
use Rattle.told.specs.Steps.{listing_at}
use Rattle.told.proofs.ListingLaws.{listing_at_lem, listing_absent, span_of, told_absent, told_next}
use Rattle.accepting.specs.Verdict.{meaning}
use Rattle.accepting.proofs.ListTests.{left_all, left_absent, wrong_here, right_here, left_none}
use Rattle.accepting.proofs.lists.first_wrong.Goals as goal

pub query_count-count-requires : goal.query_count-count-requires
query_count-count-requires c = record { read = c.requires.read; made = c.requires.made }

pub loop-i-init : goal.loop-i-init
loop-i-init c = left_all c.args.table.now c.args.lists.now c.requires.form

pub query_at-q-requires : goal.query_at-q-requires
query_at-q-requires c = record { read = c.requires.read; made = c.requires.made; number = omega arith }

pub read_listing-requires : goal.read_listing-requires
read_listing-requires c = record { scope = asked_small c.args.table.now _ c.query_at-q.ensures.asked; kind = c.query_at-q.ensures.asked.kind }

pub returns-in_default : goal.returns-in_default
returns-in_default c = record { answer = absurd (left_absent c.args.table.now c.args.lists.now c.loop-i.i c.loop-i.at c.loop-i.invariant (told_absent c.args.table.now c.args.lists.now c.loop-i.i c.loop-i.at (omega arith) _ c.query_at-q.ensures.query _ c.form_of-form.ensures.answer (listing_absent _ _ _ c.args.lists.now _ _ c.read_listing.ensures.taken c.in_default.is))) }

pub list_right-requires : goal.list_right-requires
list_right-requires c = record { asked = c.query_at-q.ensures.asked; made = c.requires.made; span = span_of c.args.lists.now _ _ c.read_listing.ensures.span c.in-Some.is }

pub returns-then-not-list_right : goal.returns-then-not-list_right
unfolding meaning
returns-then-not-list_right c = record { answer = wrong_here c.args.table.now c.args.lists.now c.loop-i.i c.loop-i.at c.loop-i.invariant (omega arith) _ c.query_at-q.ensures.query (listing_at c.args.lists.now c.in-Some.l) c.in-Some.l.next (told_next c.args.table.now c.args.lists.now c.loop-i.i c.loop-i.at (omega arith) _ c.query_at-q.ensures.query _ c.form_of-form.ensures.answer (listing_at c.args.lists.now c.in-Some.l) c.in-Some.l.next (listing_at_lem _ _ _ c.args.lists.now _ _ c.read_listing.ensures.taken c.in-Some.l c.in-Some.is)) (sym c.list_right.ensures.answer ∙ c.if-not-list_right.true) }

pub loop-i-preserved : goal.loop-i-preserved
loop-i-preserved c = right_here c.args.table.now c.args.lists.now c.loop-i.i c.loop-i.at c.loop-i.invariant (omega arith) _ c.query_at-q.ensures.query (listing_at c.args.lists.now c.in-Some.l) c.in-Some.l.next (told_next c.args.table.now c.args.lists.now c.loop-i.i c.loop-i.at (omega arith) _ c.query_at-q.ensures.query _ c.form_of-form.ensures.answer (listing_at c.args.lists.now c.in-Some.l) c.in-Some.l.next (listing_at_lem _ _ _ c.args.lists.now _ _ c.read_listing.ensures.taken c.in-Some.l c.in-Some.is)) (sym c.list_right.ensures.answer ∙ c.if-not-list_right.false)

pub returns : goal.returns
unfolding meaning
returns c = record { answer = left_none c.args.table.now c.args.lists.now c.loop-i.i c.loop-i.at c.loop-i.invariant (omega arith) }
