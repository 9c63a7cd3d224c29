-- `end_place` meets its contract, by the match on the end. Assumes nothing.
use borrow.Author.Tests.{lt-ltb, le-ltb}
use Rattle.board.specs.Places.{end_place}
use Rattle.board.proofs.order.end_place.Goals as goal

pub returns-in-Stop : goal.returns-in-Stop
unfolding end_place
returns-in-Stop c = record { answer = rw c.in-Stop.is }

pub returns-in-Label : goal.returns-in-Label
unfolding end_place
returns-in-Label c = record { answer = rw (c.in-Label.is, lt-ltb _ _ c.if-l-lt-LABELS.true, end_place) }

pub returns-in-Label-2 : goal.returns-in-Label-2
unfolding end_place
returns-in-Label-2 c = record { answer = rw (c.in-Label.is, le-ltb _ _ c.if-l-lt-LABELS.false, end_place) }
