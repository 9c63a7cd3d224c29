-- `end_number` meets its contract. Assumes nothing.
use native.Mathlib.Omega.{arith}
use Rattle.comparison.specs.Letters.{block_letters}
use Rattle.accepting.proofs.OpenLaws.{end_mark, end_label, label_small}
use Rattle.accepting.proofs.opens.end_number.Goals as goal

pub returns-then-x-eq36 : goal.returns-then-x-eq36
returns-then-x-eq36 c = record { answer = end_mark (block_letters c.args.block.now) c.args.x c.if-x-eq36.true }

pub overflow_add-result : goal.overflow_add-result
overflow_add-result c = let h = label_small c.args.block.now c.args.x _ (omega arith) c.label_number.ensures.answer in omega arith

pub returns : goal.returns
returns c = record { answer = end_label (block_letters c.args.block.now) c.args.x c.if-x-eq36.false _ c.label_number.ensures.answer }
