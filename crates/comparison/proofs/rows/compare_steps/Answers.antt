-- `compare_steps` meets its contract: rows from different starts, and rows from one. Assumes
-- nothing.
use Rattle.comparison.proofs.RowLaws.{starts_apart, starts_same}
use Rattle.comparison.proofs.rows.compare_steps.Goals as goal

pub returns-then-start-other : goal.returns-then-start-other
returns-then-start-other c = record { answer = starts_apart c.args.cells.now c.args.start c.args.other c.args.a.now c.args.b.now c.if-start-other.true }

pub returns : goal.returns
returns c = record { answer = starts_same c.args.cells.now c.args.start c.args.other c.args.a.now c.args.b.now c.requires.read c.if-start-other.false _ c.put_board.ensures.made c.agreed-equal.result c.agreed-equal.ensures.answer c.more_specific.result c.more_specific.ensures.answer }
