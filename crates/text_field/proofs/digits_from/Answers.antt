use mathlib.Core.Path.{◌≡◌, sym, ap, ◌∙◌}
use native.Mathlib.Omega.{arith}
use lib.ListN.{length}
use Rattle.std.specs.declared.option.Option.TheVariants.{Some}
use Rattle.text_field.proofs.Steps.{digits_end, digits_stop, digits_go, grown}
use Rattle.text_field.proofs.digits_from.Goals as goal

pub returns-then-not-goes_on : goal.returns-then-not-goes_on
returns-then-not-goes_on c = record { answer = digits_stop _ _ _ (omega arith) (sym c.goes_on.ensures.answer ∙ c.if-not-goes_on.true) ∙ c.loop-i.invariant }

pub overflow_mul-v : goal.overflow_mul-v
overflow_mul-v c = omega (arith, grown _ _ (sym c.goes_on.ensures.answer ∙ c.if-not-goes_on.false))

pub overflow_add-v : goal.overflow_add-v
overflow_add-v c = omega (arith, grown _ _ (sym c.goes_on.ensures.answer ∙ c.if-not-goes_on.false), c.type_inv.s c.loop-i.i)

pub loop-i-preserved : goal.loop-i-preserved
loop-i-preserved c = digits_go _ _ _ (omega arith) _ c.digit_value.ensures.answer (sym c.goes_on.ensures.answer ∙ c.if-not-goes_on.false) ∙ c.loop-i.invariant

pub returns : goal.returns
returns c =
    let e : length c.args.s.now ≡ c.loop-i.i = omega arith
    in record { answer = ap (λ z. Some (c.loop-i.v, z)) e ∙ digits_end _ _ _ (omega arith) ∙ c.loop-i.invariant }
