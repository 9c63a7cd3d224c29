-- `is_several` meets its contract: by the case. Assumes nothing.
use mathlib.Core.Path.{sym, ap}
use Rattle.follow.specs.Tally.{is_several}
use Rattle.follow.proofs.TakeLaws.{not_several}
use Rattle.follow.proofs.count.is_several.Goals as goal

pub returns-in-Several : goal.returns-in-Several
unfolding is_several
returns-in-Several c = record { answer = sym (ap is_several c.in-Several.is) }

pub returns-in_default : goal.returns-in_default
returns-in_default c = record { answer = sym (not_several c.args.seen c.in_default.not-Several) }
