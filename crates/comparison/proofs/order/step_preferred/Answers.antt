-- `step_preferred` meets its contract: the order pairs, then at one label the turns. Assumes
-- nothing.
use Rattle.comparison.proofs.EndLaws.{steps_paired, steps_later}
use Rattle.comparison.proofs.order.step_preferred.Goals as goal

pub returns-then-pair : goal.returns-then-pair
returns-then-pair c = record { answer = steps_paired c.args.block.now c.args.l c.args.k _ _ c.args.t c.args.u c.label_end.ensures.answer c.label_end-2.ensures.answer _ c.pair.ensures.answer c.if-pair.true }
