-- `listing_on` meets its contract. Assumes nothing.
use mathlib.Core.Path.{◌∙◌}
use native.Mathlib.Omega.{arith}
use Rattle.text_field.specs.Refusal.{number_of}
use Rattle.text_field.specs.Answer.{answer_of}
use Rattle.resolution.specs.Asked.{found_meaning}
use Rattle.resolution.proofs.Heads.{no_query_lem, query_listed}
use Rattle.resolution.proofs.lists.listing_on.Goals as goal

pub returns-then-query_count-i : goal.returns-then-query_count-i
unfolding answer_of number_of found_meaning
returns-then-query_count-i c = let told = no_query_lem c.args.table.now c.args.i (omega arith) c.args.out.now in record { answer = told.0; memory = told.1.0; found = told.1.1 }

pub query_at-requires : goal.query_at-requires
query_at-requires c = record { read = c.requires.read; made = c.requires.made; number = omega arith }

pub returns : goal.returns
returns c = let told = query_listed c.args.table.now c.args.i (omega arith) _ (c.ask_of-ask.ensures.asking.query ∙ c.query_at.ensures.query) _ _ c.args.out.now _ (c.list.ensures.answer, (c.list.ensures.memory, c.list.ensures.found)) in record { answer = told.0; memory = told.1.0; found = told.1.1 }
