use mathlib.Core.Path.{sym, ◌∙◌}
use native.Mathlib.Omega.{arith}
use Rattle.text_field.proofs.Spelled.{spells_none, spells_high, spells_other}
use Rattle.text_field.proofs.is_name.Goals as goal

pub returns-in_default : goal.returns-in_default
returns-in_default c = record { answer = let a = c.args in spells_none 16 a.high a.low _ _ (omega arith) c.put_name.ensures.written (sym c.in_default.is ∙ c.read_name.ensures.answer) }

pub returns-then-h-high : goal.returns-then-h-high
returns-then-h-high c = record { answer = let a = c.args in spells_high 16 a.high a.low _ _ (omega arith) c.put_name.ensures.written _ _ _ (sym c.in-Some.is ∙ c.read_name.ensures.answer) c.if-h-high.true }

pub returns-else-h-high : goal.returns-else-h-high
returns-else-h-high c = record { answer = let a = c.args in spells_other 16 a.high a.low _ _ (omega arith) c.put_name.ensures.written _ _ _ (sym c.in-Some.is ∙ c.read_name.ensures.answer) c.if-h-high.false }
