-- `declared` meets its contract: a part that ends past the table ends with it. Assumes nothing.
use Rattle.block.specs.Block.{declared_part}
use Rattle.follow.proofs.EntryLaws.{clipped_part}
use Rattle.follow.proofs.rows.declared.Goals as goal

pub returns : goal.returns
unfolding declared_part
returns c = record { part = rw (c.declared_end.ensures.answer, c.declared_from.ensures.answer) at (clipped_part c.declared_from.result c.declared_end.result c.min-from.result c.min-end.result c.args.on.now.table.now c.min-end.ensures c.min-from.ensures) }
