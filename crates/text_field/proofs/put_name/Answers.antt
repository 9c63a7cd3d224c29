use mathlib.Core.Path.{◌∙◌}
use native.Mathlib.Omega.{arith}
use Rattle.text_field.proofs.CellLaws.{name_end, name_turn}
use Rattle.text_field.proofs.BufferLaws.{puts_none, puts_step, puts_one}
use Rattle.text_field.proofs.put_name.Goals as goal

pub loop-h-smaller : goal.loop-h-smaller
loop-h-smaller c = let i = c.loop-h in (name_turn i.h i.l _ _ _ (omega arith) (omega arith) c.first_byte.ensures.answer c.shifted-h.ensures.answer c.shifted-l.ensures.answer).less

pub loop-h-preserved : goal.loop-h-preserved
loop-h-preserved c = let i = c.loop-h in let t = name_turn i.h i.l _ _ _ (omega arith) (omega arith) c.first_byte.ensures.answer c.shifted-h.ensures.answer c.shifted-l.ensures.answer in (c.put_byte-k.auto.out ∙ i.invariant.0, puts_step _ _ _ _ _ _ (c.put_byte-k.ensures.written ∙ puts_one _ _) t.text i.invariant.1, t.fits)

pub returns : goal.returns
returns c = record { written = puts_none _ _ (name_end c.loop-h.h c.loop-h.l (omega arith)) ∙ c.loop-h.invariant.1 }
