-- `count_query` meets its contract: there is no query i, or its ask tells. Assumes nothing.
use mathlib.Core.Path.{◌∙◌}
use native.Mathlib.Omega.{arith}
use Rattle.text_field.specs.Refusal.{number_of}
use Rattle.text_field.specs.Answer.{answer_of}
use Rattle.beginnings.proofs.Places.{starts_inside, scopes_few, in_scopes}
use Rattle.beginnings.proofs.Calls.{no_query_lem, a_query}
use Rattle.beginnings.proofs.counts.count_query.Goals as goal

pub returns-then-query_count-i : goal.returns-then-query_count-i
unfolding answer_of number_of
returns-then-query_count-i c = record { answer = no_query_lem c.args.table.now c.args.i (omega arith) }

pub query_at-requires : goal.query_at-requires
query_at-requires c = record { read = c.requires.read; made = c.requires.made; number = omega arith }

pub count_on-requires : goal.count_on-requires
count_on-requires c = record { bounds = c.ask_of-ask.ensures.asking.ready.made.bounds; live = c.ask_of-ask.ensures.asking.ready.live; start = starts_inside _ _ _ c.ask_of-ask.ensures.asking.ready; scopes = scopes_few _ _ _ c.ask_of-ask.ensures.asking.ready; inside = in_scopes _ _ _ c.ask_of-ask.ensures.asking.ready }

pub returns : goal.returns
unfolding answer_of
returns c = record { answer = a_query c.args.table.now c.args.i (omega arith) c.args.block.now _ c.ask_of-ask.ensures.asking.ready (c.ask_of-ask.ensures.asking.query ∙ c.query_at.ensures.query) _ c.count_on.ensures.count }
