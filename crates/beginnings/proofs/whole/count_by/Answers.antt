-- `count_by` meets its contract. Assumes nothing.
use mathlib.Core.Path.{refl}
use Rattle.beginnings.proofs.MemoLaws.{memo_none}
use Rattle.beginnings.proofs.whole.count_by.Goals as goal

pub count_at-requires : goal.count_at-requires
count_at-requires c = record { bounds = c.requires.bounds; live = c.requires.live; table = c.requires.table; worth = c.requires.worth; near = c.requires.near; hopes = c.requires.hopes; inside = c.requires.inside; few = c.requires.few; memo = memo_none c.args.block.now c.args.near.now c.args.ask.now 65536 refl }
