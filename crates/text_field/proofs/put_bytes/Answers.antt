use mathlib.Core.Path.{◌∙◌}
use native.Mathlib.Omega.{arith}
use Rattle.text_field.proofs.Steps.{drop_next, drop_end}
use Rattle.text_field.proofs.BufferLaws.{puts_none, puts_step, puts_one}
use Rattle.text_field.proofs.put_bytes.Goals as goal

pub loop-x-preserved : goal.loop-x-preserved
loop-x-preserved c = let l = c.loop-x in (c.put_byte-k.auto.out ∙ l.invariant.0, puts_step _ _ _ _ _ _ (c.put_byte-k.ensures.written ∙ puts_one _ _) (drop_next c.args.s.now l.x-index (omega arith)) l.invariant.1)

pub returns : goal.returns
returns c = record { written = puts_none _ _ (drop_end c.args.s.now c.loop-x.x-index (omega arith)) ∙ c.loop-x.invariant.1 }
