-- `put_entries` meets its contract: the scope's declarations are its part of the table. Assumes
-- nothing.
use Rattle.follow.specs.Walk.{marks_at}
use Rattle.follow.proofs.rows.put_entries.Goals as goal

pub returns : goal.returns
unfolding marks_at
returns c = record { taken = rw c.declared.ensures.part at c.put_declared.ensures.taken }
