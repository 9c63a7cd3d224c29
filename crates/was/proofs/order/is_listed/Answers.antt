-- `is_listed` meets its contract. Assumes nothing.
use mathlib.Core.Path.{◌∙◌}
use Rattle.was.proofs.ListedLaws.{listed_is}
use Rattle.was.proofs.order.is_listed.Goals as goal

pub returns : goal.returns
returns c = record { answer = c.contains.ensures.value ∙ listed_is c.args.x c.args.list.now }
