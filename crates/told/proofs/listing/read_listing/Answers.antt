-- `read_listing` meets its contract: part by part. Assumes nothing.
use lib.ListN.{drop}
use Rattle.graph_table.specs.Values.{packed}
use Rattle.told.specs.Steps.{listing_meaning}
use Rattle.told.proofs.FixedBytes.{place_at, place_none}
use Rattle.told.proofs.ListingLaws.{word_at, word_absent, awaits_at, awaits_absent, no_names, no_query_lem, no_word, no_space, no_awaits, no_title, all_parts, listing_read}
use Rattle.told.proofs.listing.read_listing.Goals as goal

pub returns-in_err-columns-clause-taken : goal.returns-in_err-columns-clause-taken
unfolding listing_meaning
returns-in_err-columns-clause-taken c = rw c.from_residual.ensures (no_names c.args.form c.args.q.start (packed c.args.q.name) (drop c.args.at c.args.s.now) (place_none c.args.s.now _ _ _ c.past_names.ensures.answer c.in_err-columns.was))

pub returns-in_err-word-clause-taken : goal.returns-in_err-word-clause-taken
unfolding listing_meaning
returns-in_err-word-clause-taken c = let e1 = place_at c.args.s.now _ _ _ c.past_names.ensures.answer _ c.in_ok-columns.was in rw c.from_residual-in_err-word.ensures (no_query_lem c.args.form c.args.q.start (packed c.args.q.name) (drop c.args.at c.args.s.now) _ e1 (place_none c.args.s.now _ _ _ c.past_query.ensures.answer c.in_err-word.was))

pub returns-in_err-found-clause-taken : goal.returns-in_err-found-clause-taken
unfolding listing_meaning
returns-in_err-found-clause-taken c = let e1 = place_at c.args.s.now _ _ _ c.past_names.ensures.answer _ c.in_ok-columns.was in let e2 = place_at c.args.s.now _ _ _ c.past_query.ensures.answer _ c.in_ok-word.was in rw c.from_residual-in_err-found.ensures (no_word c.args.form c.args.q.start (packed c.args.q.name) (drop c.args.at c.args.s.now) _ e1 _ e2 (word_absent c.args.s.now _ _ c.read_found.ensures.answer c.in_err-found.was))

pub returns-in_err-pair-clause-taken : goal.returns-in_err-pair-clause-taken
unfolding listing_meaning
returns-in_err-pair-clause-taken c = let e1 = place_at c.args.s.now _ _ _ c.past_names.ensures.answer _ c.in_ok-columns.was in let e2 = place_at c.args.s.now _ _ _ c.past_query.ensures.answer _ c.in_ok-word.was in let e3 = word_at c.args.s.now _ _ c.read_found.ensures.answer _ _ c.in_ok-found.was in rw c.from_residual-in_err-pair.ensures (no_space c.args.form c.args.q.start (packed c.args.q.name) (drop c.args.at c.args.s.now) _ e1 _ e2 _ _ e3 (place_none c.args.s.now _ _ _ c.past.ensures.answer c.in_err-pair.was))

pub returns-in_err-awaits-clause-taken : goal.returns-in_err-awaits-clause-taken
unfolding listing_meaning
returns-in_err-awaits-clause-taken c = let e1 = place_at c.args.s.now _ _ _ c.past_names.ensures.answer _ c.in_ok-columns.was in let e2 = place_at c.args.s.now _ _ _ c.past_query.ensures.answer _ c.in_ok-word.was in let e3 = word_at c.args.s.now _ _ c.read_found.ensures.answer _ _ c.in_ok-found.was in let e4 = place_at c.args.s.now _ _ _ c.past.ensures.answer _ c.in_ok-pair.was in rw c.from_residual-in_err-awaits.ensures (no_awaits c.args.form c.args.q.start (packed c.args.q.name) (drop c.args.at c.args.s.now) _ e1 _ e2 _ _ e3 _ e4 (awaits_absent c.args.s.now _ _ c.read_awaits.ensures.answer c.in_err-awaits.was))

pub returns-in_err-first-clause-taken : goal.returns-in_err-first-clause-taken
unfolding listing_meaning
returns-in_err-first-clause-taken c = let e1 = place_at c.args.s.now _ _ _ c.past_names.ensures.answer _ c.in_ok-columns.was in let e2 = place_at c.args.s.now _ _ _ c.past_query.ensures.answer _ c.in_ok-word.was in let e3 = word_at c.args.s.now _ _ c.read_found.ensures.answer _ _ c.in_ok-found.was in let e4 = place_at c.args.s.now _ _ _ c.past.ensures.answer _ c.in_ok-pair.was in let e5 = awaits_at c.args.s.now _ _ c.read_awaits.ensures.answer _ _ c.in_ok-awaits.was in rw c.from_residual-in_err-first.ensures (no_title c.args.form c.args.q.start (packed c.args.q.name) (drop c.args.at c.args.s.now) _ e1 _ e2 _ _ e3 _ e4 _ _ e5 (place_none c.args.s.now _ _ _ c.past-2.ensures.answer c.in_err-first.was))

pub returns-clause-taken : goal.returns-clause-taken
returns-clause-taken c = let e1 = place_at c.args.s.now _ _ _ c.past_names.ensures.answer _ c.in_ok-columns.was in let e2 = place_at c.args.s.now _ _ _ c.past_query.ensures.answer _ c.in_ok-word.was in let e3 = word_at c.args.s.now _ _ c.read_found.ensures.answer _ _ c.in_ok-found.was in let e4 = place_at c.args.s.now _ _ _ c.past.ensures.answer _ c.in_ok-pair.was in let e5 = awaits_at c.args.s.now _ _ c.read_awaits.ensures.answer _ _ c.in_ok-awaits.was in let e6 = place_at c.args.s.now _ _ _ c.past-2.ensures.answer _ c.in_ok-first.was in listing_read c.args.form c.args.q.start (packed c.args.q.name) c.args.s.now (drop c.args.at c.args.s.now) _ (all_parts c.args.form c.args.q.start (packed c.args.q.name) (drop c.args.at c.args.s.now) _ e1 _ e2 _ _ e3 _ e4 _ _ e5 _ e6) c.rows_from-rows.ensures.span
