-- `rows_from` meets its contract: what is left of the rows, with those passed, gives the whole.
-- Assumes nothing.
use Rattle.told.proofs.RowLaws.{passed_on, passed_end, told_none}
use Rattle.told.proofs.rows.rows_from.Goals as goal

pub loop-next-preserved : goal.loop-next-preserved
loop-next-preserved c = passed_on c.args.s.now c.args.at c.loop-next.k c.loop-next.count c.loop-next.invariant _ _ c.in-Some.ensures.answer

pub returns : goal.returns
returns c = record { span = passed_end c.args.s.now c.args.at c.loop-next.k c.loop-next.count c.loop-next.invariant (told_none c.args.s.now c.loop-next.k _ c.row_at.ensures.answer c.in_default.is) }
