-- `later` meets its contract, by whether each step is an edge row. Assumes nothing.
use Rattle.comparison.proofs.EndLaws.{none_first, none_second, both_turns}
use Rattle.comparison.proofs.order.later.Goals as goal

pub returns-in-Some-Some : goal.returns-in-Some-Some
returns-in-Some-Some c = record { answer = both_turns c.args.t c.args.u _ _ c.in-Some-Some.is-0 c.in-Some-Some.is-1 }

pub returns-in_default : goal.returns-in_default
returns-in_default c = record { answer = none_second c.args.t c.args.u _ c.in_default.is-0 c.in_default.is-1 }

pub returns-in_default-2 : goal.returns-in_default-2
returns-in_default-2 c = record { answer = none_first c.args.t c.args.u c.in_default.is-0 }
