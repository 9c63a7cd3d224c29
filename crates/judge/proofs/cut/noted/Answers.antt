-- `noted` meets its contract. Assumes nothing.
use Rattle.judge.specs.LastCut.{caught_at}
use Rattle.judge.proofs.CutLaws.{kept_on, kept_here}
use Rattle.judge.proofs.cut.noted.Goals as goal

pub returns-then-cut : goal.returns-then-cut
returns-then-cut c = record { answer = kept_here (caught_at c.args.last) c.args.cut c.args.place c.if-cut.true }

pub returns-else-cut : goal.returns-else-cut
returns-else-cut c = record { answer = kept_on (caught_at c.args.last) c.args.cut c.args.place c.if-cut.false }
