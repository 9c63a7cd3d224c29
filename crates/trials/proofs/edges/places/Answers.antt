-- `trials::edges::places` is safe and ends. The measure is the cells left, since the next row stands at p or behind it.
-- Assumes nothing.
use native.Mathlib.Omega.{arith}
use Rattle.graph_table.proofs.Laws.{next_row_lem}
use Rattle.trials.proofs.edges.places.Goals as goal

pub loop-p-init : goal.loop-p-init
loop-p-init c = tt

pub overflow_add-p : goal.overflow_add-p
overflow_add-p c = omega (arith, (next_row_lem c.next_row-at.ensures.answer).whole c.if-rows-at.false)

pub loop-p-smaller : goal.loop-p-smaller
loop-p-smaller c = omega (arith, (next_row_lem c.next_row-at.ensures.answer).whole c.if-rows-at.false, (next_row_lem c.next_row-at.ensures.answer).on c.if-rows-at.false)

pub loop-p-preserved : goal.loop-p-preserved
loop-p-preserved c = tt
