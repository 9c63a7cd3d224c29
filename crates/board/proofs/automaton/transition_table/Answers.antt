use Prim.Native.Nat.{◌+◌, ◌-◌, ◌*◌}
use mathlib.Core.Path.{◌≡◌, refl, sym, ap, ◌∙◌}
use Rattle.graph_table.specs.declared.rows.TransitionRow.{TransitionRow}
use Rattle.board.specs.Places.{transition_place}
use Rattle.board.proofs.Passes.{stepping_none, stepped_past, stepped, stepping_all, place_some}
use native.Mathlib.Omega.{arith}
use Rattle.board.proofs.automaton.transition_table.Goals as goal

pub loop-i-init : goal.loop-i-init
loop-i-init c = stepping_none c.args.rows.now _ refl

pub offset_bounds-t-place : goal.offset_bounds-t-place
offset_bounds-t-place c = let p = place_some _ _ _ (sym c.place_of.ensures.answer ∙ c.in-Some.is) in omega (arith, p.state, p.label, p.is)

pub bounds-t-place : goal.bounds-t-place
bounds-t-place c = let p = place_some _ _ _ (sym c.place_of.ensures.answer ∙ c.in-Some.is) in omega (arith, p.state, p.label, p.is, c.loop-i.invariant.size)

pub loop-i-preserved-in-Some : goal.loop-i-preserved-in-Some
loop-i-preserved-in-Some c = let here : c.loop-i.i - 1 + 1 ≡ c.loop-i.i = omega arith in
    stepped c.args.rows.now (c.loop-i.i - 1) c.loop-i.t (rw here c.loop-i.invariant) c.in-Some.place c.transition_row-row.result.next
    (ap (λ (row : TransitionRow). transition_place row.state row.label) (sym c.transition_row-row.ensures.answer) ∙ sym c.place_of.ensures.answer ∙ c.in-Some.is)
    (ap (λ (row : TransitionRow). row.next) c.transition_row-row.ensures.answer)

pub loop-i-preserved : goal.loop-i-preserved
loop-i-preserved c = let here : c.loop-i.i - 1 + 1 ≡ c.loop-i.i = omega arith in
    stepped_past c.args.rows.now (c.loop-i.i - 1) c.loop-i.t (rw here c.loop-i.invariant)
    (ap (λ (row : TransitionRow). transition_place row.state row.label) (sym c.transition_row-row.ensures.answer) ∙ sym c.place_of.ensures.answer ∙ c.in_default.is)

pub returns : goal.returns
returns c = record { answer = stepping_all c.args.rows.now (c.loop-i.i * 6) c.loop-i.t c.loop-i.invariant (omega arith) }
