-- `read_awaits` meets its contract. Assumes nothing.
use lib.ListN.{drop}
use Rattle.told.specs.Apart.{awaits_here}
use Rattle.told.specs.Steps.{named_meaning, awaits_meaning}
use Rattle.told.proofs.FixedBytes.{place_at, place_none}
use Rattle.told.proofs.WordLaws.{else_later, else_first}
use Rattle.told.proofs.PairLaws.{dash_none, dash_some}
use Rattle.told.proofs.pairs.read_awaits.Goals as goal

pub returns-in-None : goal.returns-in-None
unfolding awaits_here
returns-in-None c = record { answer = else_later _ _ 10 (dash_none (drop c.args.at c.args.s.now) (place_none c.args.s.now _ _ _ c.past.ensures.answer c.in-None.is)) _ c.read_pair.ensures.answer }

pub returns-in-Some : goal.returns-in-Some
unfolding awaits_meaning named_meaning awaits_here
returns-in-Some c = record { answer = else_first _ _ _ (dash_some (drop c.args.at c.args.s.now) _ (place_at c.args.s.now _ _ _ c.past.ensures.answer _ c.in-Some.is)) }
