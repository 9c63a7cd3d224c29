-- `put_found` meets its contract. Assumes nothing.
use Rattle.resolution.specs.Asked.{found_meaning}
use Rattle.follow.specs.Text.{found_text}
use Rattle.resolution.proofs.text.put_found.Goals as goal

pub returns-in-None : goal.returns-in-None
unfolding found_text found_meaning
returns-in-None c = record { wrote = rw c.in-None.is c.put_bytes.ensures.wrote }

pub returns-in-One : goal.returns-in-One
unfolding found_text found_meaning
returns-in-One c = record { wrote = rw c.in-One.is c.put_bytes-in-One.ensures.wrote }

pub returns-in-Several : goal.returns-in-Several
unfolding found_text found_meaning
returns-in-Several c = record { wrote = rw c.in-Several.is c.put_bytes-in-Several.ensures.wrote }
