-- `better` meets its contract. Assumes nothing.
use Rattle.search.proofs.CutEnds.{better_is}
use Rattle.search.proofs.ends.better.Goals as goal

pub returns : goal.returns
returns c = record { answer = better_is _ _ c.requires.end }
