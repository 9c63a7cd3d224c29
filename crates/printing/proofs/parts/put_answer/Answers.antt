-- `printing::parts::put_answer` leaves what was written, or puts the refusal's line in its place.
-- Assumes nothing.
use Rattle.printing.specs.Parts.{answered}
use Rattle.printing.proofs.parts.put_answer.Goals as goal

pub returns-in-Ok : goal.returns-in-Ok
unfolding answered
returns-in-Ok c = record { written = rw c.in-Ok.is }

pub returns-in-Err : goal.returns-in-Err
unfolding answered
returns-in-Err c = record { written = rw c.in-Err.is c.put_refused.ensures.written }
