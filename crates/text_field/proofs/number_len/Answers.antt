use native.Mathlib.Omega.{arith}
use Rattle.text_field.proofs.NumberLaws.{length_short, length_long}
use Rattle.text_field.proofs.number_len.Goals as goal

pub loop-x-preserved : goal.loop-x-preserved
loop-x-preserved c = let l = length_long c.loop-x.x (omega arith) in (omega arith, omega arith)

pub returns : goal.returns
returns c = record { answer = omega (arith, length_short c.loop-x.x (omega arith)) }
