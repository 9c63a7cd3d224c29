use Prim.Native.Nat.{◌+◌, ◌*◌}
use mathlib.Core.Path.{◌≡◌, sym, ap, ◌∙◌}
use mathlib.Core.Logic.{inl, inr}
use Rattle.scope_graph.specs.declared.Pair.{Pair}
use Rattle.board.specs.Places.{end_place}
use Rattle.board.proofs.Passes.{end_past, end_cell, better_none, better_past, better_noted, better_all}
use native.Mathlib.Omega.{arith}
use Rattle.board.proofs.order.better_table.Goals as goal

pub loop-i-init : goal.loop-i-init
loop-i-init c = better_none c.args.rows.now

pub overflow_shl-t : goal.overflow_shl-t
overflow_shl-t c = let e = end_cell _ _ (ap (λ (r : Pair). end_place r.less) (sym c.pair_row-row.ensures.answer) ∙ sym c.end_place.ensures.answer ∙ c.in-Some.is) in omega (arith, e.0, e.1)

pub offset_bounds-t-more : goal.offset_bounds-t-more
offset_bounds-t-more c = let e = end_cell _ _ (ap (λ (r : Pair). end_place r.more) (sym c.pair_row-row.ensures.answer) ∙ sym c.end_place-in-loop-i.ensures.answer ∙ c.in-Some-end_place.is) in omega (arith, e.0, e.1)

pub bounds-t-more : goal.bounds-t-more
bounds-t-more c = let e = end_cell _ _ (ap (λ (r : Pair). end_place r.more) (sym c.pair_row-row.ensures.answer) ∙ sym c.end_place-in-loop-i.ensures.answer ∙ c.in-Some-end_place.is) in omega (arith, e.0, e.1)

pub bounds-t-more-in-loop-i : goal.bounds-t-more-in-loop-i
bounds-t-more-in-loop-i c = let e = end_cell _ _ (ap (λ (r : Pair). end_place r.more) (sym c.pair_row-row.ensures.answer) ∙ sym c.end_place-in-loop-i.ensures.answer ∙ c.in-Some-end_place.is) in omega (arith, e.0, e.1)

pub loop-i-preserved-in_default : goal.loop-i-preserved-in_default
loop-i-preserved-in_default c = let next : (c.loop-i.i + 1) * 6 ≡ c.loop-i.i * 6 + 6 = omega arith in
    rw next (better_past c.args.rows.now (c.loop-i.i * 6) c.loop-i.t c.loop-i.invariant (omega arith)
    (inl (end_past _ (ap (λ (r : Pair). end_place r.less) (sym c.pair_row-row.ensures.answer) ∙ sym c.end_place.ensures.answer ∙ c.in_default.is))))

pub loop-i-preserved-in_default-end_place : goal.loop-i-preserved-in_default-end_place
loop-i-preserved-in_default-end_place c = let next : (c.loop-i.i + 1) * 6 ≡ c.loop-i.i * 6 + 6 = omega arith in
    rw next (better_past c.args.rows.now (c.loop-i.i * 6) c.loop-i.t c.loop-i.invariant (omega arith)
    (inr (end_past _ (ap (λ (r : Pair). end_place r.more) (sym c.pair_row-row.ensures.answer) ∙ sym c.end_place-in-loop-i.ensures.answer ∙ c.in_default-end_place.is))))

pub loop-i-preserved : goal.loop-i-preserved
loop-i-preserved c = let next : (c.loop-i.i + 1) * 6 ≡ c.loop-i.i * 6 + 6 = omega arith in
    let less = end_cell _ _ (ap (λ (r : Pair). end_place r.less) (sym c.pair_row-row.ensures.answer) ∙ sym c.end_place.ensures.answer ∙ c.in-Some.is) in
    let more = end_cell _ _ (ap (λ (r : Pair). end_place r.more) (sym c.pair_row-row.ensures.answer) ∙ sym c.end_place-in-loop-i.ensures.answer ∙ c.in-Some-end_place.is) in
    rw (next, less.0, more.0) (better_noted c.args.rows.now (c.loop-i.i * 6) c.loop-i.t c.loop-i.invariant (omega arith) less.1 more.1)

pub returns : goal.returns
returns c = record { answer = better_all c.args.rows.now (c.loop-i.i * 6) c.loop-i.t c.loop-i.invariant (omega arith) }
