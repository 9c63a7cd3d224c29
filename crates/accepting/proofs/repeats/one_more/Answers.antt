-- `one_more` meets its contract. Assumes nothing.
use Rattle.accepting.proofs.ClassLaws.{raised_none, raised_some}
use Rattle.accepting.proofs.repeats.one_more.Goals as goal

pub returns-then-count-eq0 : goal.returns-then-count-eq0
returns-then-count-eq0 c = record { answer = raised_none _ c.if-count-eq0.true }

pub returns : goal.returns
returns c = record { answer = raised_some _ c.if-count-eq0.false }
