-- `gym::words::query_of`: the argument is a number and no more. Assumes nothing.
use Rattle.gym.specs.Handed.{queried}
use Rattle.gym.proofs.WordLaws.{query_none, query_long, query_is}
use Rattle.gym.proofs.words.query_of.Goals as goal

pub returns-in_err-query : goal.returns-in_err-query
unfolding queried
returns-in_err-query c = rw c.from_residual.ensures (record { answer = λ x. query_none c.args.first.now _ c.read_number.ensures.answer x c.in_err-query.was })

pub returns-then-end-first : goal.returns-then-end-first
unfolding queried
returns-then-end-first c = record { answer = λ x. query_long c.args.first.now _ c.read_number.ensures.answer x _ _ c.in_ok-query.was c.if-end-first.true }

pub returns : goal.returns
unfolding queried
returns c = record { answer = λ x. query_is c.args.first.now _ c.read_number.ensures.answer x _ _ c.in_ok-query.was c.if-end-first.false }
