-- `preferred` meets its contract, by the match on both ends. Assumes nothing.
use Rattle.comparison.proofs.EndLaws.{both_stop, second_label, first_label, both_label}
use Rattle.comparison.proofs.order.preferred.Goals as goal

pub returns-in-Stop-Stop : goal.returns-in-Stop-Stop
returns-in-Stop-Stop c = record { answer = both_stop c.args.block.now c.args.p.less c.args.p.more c.pair.result c.in-Stop-Stop.is-0 c.in-Stop-Stop.is-1 c.pair.ensures.answer }

pub returns-in-Stop-Label : goal.returns-in-Stop-Label
returns-in-Stop-Label c = record { answer = second_label c.args.block.now c.args.p.less c.args.p.more _ _ _ _ c.in-Stop-Label.is-0 c.in-Stop-Label.is-1 c.label_end.ensures.answer c.pair-in-Stop-Label.ensures.answer }

pub returns-in-Label-Stop : goal.returns-in-Label-Stop
returns-in-Label-Stop c = record { answer = first_label c.args.block.now c.args.p.less c.args.p.more _ _ _ _ c.in-Label-Stop.is-0 c.in-Label-Stop.is-1 c.label_end-in-Label-Stop.ensures.answer c.pair-in-Label-Stop.ensures.answer }

pub returns-in-Label-Label : goal.returns-in-Label-Label
returns-in-Label-Label c = record { answer = both_label c.args.block.now c.args.p.less c.args.p.more c.step_preferred.result _ _ _ _ c.in-Label-Label.is-0 c.in-Label-Label.is-1 c.step_preferred.ensures.answer }
