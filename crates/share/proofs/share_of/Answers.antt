-- `share_of` meets its contract: the three ways are the laws of Nearest. Assumes nothing.
use borrow.Author.Rules.{rules}
use borrow.Author.Tests.{tests}
use Rattle.share.proofs.Nearest.{past_half, at_half, before_half}
use Rattle.share.proofs.share_of.Goals as goal

pub returns-in-Less : goal.returns-in-Less
returns-in-Less c = record { answer = before_half c.args.one c.args.n (search (rules, tests)) }

pub returns-in-Equal : goal.returns-in-Equal
returns-in-Equal c = record { answer = at_half c.args.one c.args.n (search (rules, tests)) }

pub returns-in-Greater : goal.returns-in-Greater
returns-in-Greater c = record { answer = past_half c.args.one c.args.n (search (rules, tests)) }
