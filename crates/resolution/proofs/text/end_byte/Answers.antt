-- `end_byte` meets its contract. Assumes nothing.
use native.Mathlib.Omega.{arith}
use Rattle.resolution.proofs.Texts.{end_stop, end_past, end_letter}
use Rattle.resolution.proofs.text.end_byte.Goals as goal

pub returns-then-end-eq0 : goal.returns-then-end-eq0
returns-then-end-eq0 c = record { answer = end_stop c.args.block.now c.args.end c.if-end-eq0.true }

pub returns-then-end-gt8 : goal.returns-then-end-gt8
returns-then-end-gt8 c = record { answer = end_past c.args.block.now c.args.end c.if-end-gt8.true }

pub returns : goal.returns
returns c = record { answer = end_letter c.args.block.now c.args.end _ c.if-end-eq0.false (omega arith) c.letter.ensures.answer }
