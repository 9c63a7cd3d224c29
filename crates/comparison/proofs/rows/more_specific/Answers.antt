-- `more_specific` meets its contract. Assumes nothing.
use Rattle.comparison.proofs.RowLaws.{first_is, second_is, neither_is}
use Rattle.comparison.proofs.rows.more_specific.Goals as goal

pub returns-then-steps_preferred : goal.returns-then-steps_preferred
returns-then-steps_preferred c = record { answer = first_is c.args.block.now c.args.start c.args.a.now c.args.b.now c.args.equal c.steps_preferred.result c.steps_preferred.ensures.answer c.if-steps_preferred.true }

pub returns-then-steps_preferred-2 : goal.returns-then-steps_preferred-2
returns-then-steps_preferred-2 c = record { answer = second_is c.args.block.now c.args.start c.args.a.now c.args.b.now c.args.equal c.steps_preferred.result c.steps_preferred.ensures.answer c.if-steps_preferred.false c.steps_preferred-2.result c.steps_preferred-2.ensures.answer c.if-steps_preferred-2.true }

pub returns : goal.returns
returns c = record { answer = neither_is c.args.block.now c.args.start c.args.a.now c.args.b.now c.args.equal c.steps_preferred.result c.steps_preferred.ensures.answer c.if-steps_preferred.false c.steps_preferred-2.result c.steps_preferred-2.ensures.answer c.if-steps_preferred-2.false }
