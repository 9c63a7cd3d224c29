use Prim.Native.Nat.{◌+◌}
use mathlib.Core.Path.{refl, sym, ◌∙◌}
use native.Mathlib.Omega.{arith}
use native.Mathlib.Nat.{add-zero, add_assoc}
use Rattle.graph_rows.proofs.FormatLaws.{code_here, code_none}
use Rattle.graph_rows.proofs.AdmissionLaws.{key_differs, key_equal, key_end}
use Rattle.graph_rows.proofs.admission.key_less.Goals as goal

pub loop-x-init : goal.loop-x-init
loop-x-init c = (c.codes_from-x-items.ensures.answer, rw (add-zero c.args.o))

pub returns-then-x-eq10 : goal.returns-then-x-eq10
returns-then-x-eq10 c = record { answer = let e = code_here _ c.args.o c.loop-x.x-index c.loop-x.invariant.0 c.loop-x-test.true in sym (sym c.loop-x.invariant.1 ∙ key_end (c.args.o + c.loop-x.x-index) _ _ _ e c.if-x-eq10.true) }

pub returns-then-v-w : goal.returns-then-v-w
returns-then-v-w c = record { answer = let e = code_here _ c.args.o c.loop-x.x-index c.loop-x.invariant.0 c.loop-x-test.true in rw (c.value_at-v.ensures.answer, c.value_at-w.ensures.answer) (key_differs (c.args.o + c.loop-x.x-index) _ _ _ _ e c.if-x-eq10.false (c.from-c.ensures ∙ c.place_in.ensures.answer) (λ f. c.if-v-w.true (c.value_at-v.ensures.answer ∙ f ∙ sym c.value_at-w.ensures.answer)) ∙ c.loop-x.invariant.1) }

pub loop-x-preserved : goal.loop-x-preserved
loop-x-preserved c = (c.codes_from-x-items.ensures.answer, let e = code_here _ c.args.o c.loop-x.x-index c.loop-x.invariant.0 c.loop-x-test.true in rw (← add_assoc c.args.o c.loop-x.x-index 1) (key_equal (c.args.o + c.loop-x.x-index) _ _ _ _ e c.if-x-eq10.false (c.from-c.ensures ∙ c.place_in.ensures.answer) (sym c.value_at-v.ensures.answer ∙ c.if-v-w.false ∙ c.value_at-w.ensures.answer) ∙ c.loop-x.invariant.1))

pub returns : goal.returns
returns c = record { answer = sym (sym c.loop-x.invariant.1 ∙ key_end (c.args.o + c.loop-x.x-index) 10 _ _ (code_none _ c.args.o c.loop-x.x-index c.loop-x.invariant.0 (omega (arith, c.loop-x-test.false))) refl) }
