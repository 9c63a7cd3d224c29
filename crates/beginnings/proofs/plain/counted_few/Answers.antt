-- `counted_few` meets its contract. Assumes nothing.
use mathlib.Core.Path.{refl}
use Rattle.beginnings.proofs.Taken.{few_counted}
use Rattle.beginnings.proofs.plain.counted_few.Goals as goal

pub walk-t-requires : goal.walk-t-requires
walk-t-requires c = record { bounds = c.requires.bounds; start = c.requires.start; live = c.requires.live; table = c.requires.table; worth = rw c.requires.hopes c.requires.worth; room = λ e. refl }

pub returns : goal.returns
returns c = record { few = few_counted c.args.block.now _ c.args.ask.now c.args.hopes _ _ c.requires.hopes c.requires.start c.requires.scopes c.walk-t.ensures.walked }
