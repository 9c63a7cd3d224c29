-- `put_share` meets its contract. Assumes nothing.
use Rattle.resolution.proofs.Counts.{share_none, share_some}
use Rattle.resolution.proofs.sums.put_share.Goals as goal

pub returns-then-n-eq0 : goal.returns-then-n-eq0
returns-then-n-eq0 c = record { wrote = rw (← share_none c.args.n c.args.one c.if-n-eq0.true) c.put.ensures.wrote }

pub returns : goal.returns
returns c = record { wrote = rw (← share_some c.args.n c.args.one _ c.if-n-eq0.false c.share_of.ensures.answer) c.put_number.ensures.wrote }
