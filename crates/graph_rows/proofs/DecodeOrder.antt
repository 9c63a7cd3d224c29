-- Refusal 6 says what the rules ask of the order, and ends as cells are as ends. Assumes nothing.
use Prim.Native.Nat.{ℕ, zero, suc, ◌≤◌, ◌<◌}
use mathlib.Core.Path.{◌≡◌, refl, sym, ap, ◌∙◌}
use mathlib.Core.Bool.{Bool, true, false, not, ◌&&◌, ◌||◌, true≢false, false≢true}
use mathlib.Core.Logic.{⊎_elim}
use mathlib.Core.List.Memᴰ
use mathlib.Core.List.{List, [], ◌∷◌, map}
use native.Mathlib.Omega.{arith}
use lib.Dec.{eqb}
use borrow.Author.Tests.{eqb-true, eq-eqb}
use Rattle.scope_graph.specs.Language.{◌∈◌, End}
use Rattle.scope_graph.specs.Rows.{OrderPair, OrderPasses}
use Rattle.scope_graph.specs.Completion.{EndBefore}
use Rattle.scope_graph.specs.Order.{end_of}
use Rattle.scope_graph.proofs.Lists.{there, or_cases, and_left, and_right, true_false, map_intro, map_elim}
use Rattle.graph_rows.specs.Admission.{Row, value}
use Rattle.graph_rows.specs.Order.{some_row, same_ends, gap, pair_fault, order_fault}
use Rattle.graph_rows.specs.Decode.{order_pair_of}
use Rattle.graph_rows.specs.Accepted.{EndListed}

pub end_of_same : (a b : ℕ) → end_of a ≡ end_of b → a ≡ b
unfolding end_of
end_of_same zero zero e = refl
end_of_same zero (suc b) e = absurd (let z : ◌≡◌ {A = ℕ} 0 1 = cc in omega arith)
end_of_same (suc a) zero e = absurd (let z : ◌≡◌ {A = ℕ} 0 1 = cc in omega arith)
end_of_same (suc a) (suc b) e = ap suc (cc)

pub end_of_before : (a b : ℕ) → a < b → EndBefore (end_of a) (end_of b)
unfolding end_of
end_of_before zero zero h = absurd (omega arith)
end_of_before zero (suc b) h = tt
end_of_before (suc a) zero h = absurd (omega arith)
end_of_before (suc a) (suc b) h = omega arith

pub end_of_listed : (a labels : ℕ) → a ≤ labels → EndListed labels (end_of a)
unfolding end_of
end_of_listed zero labels h = tt
end_of_listed (suc a) labels h = omega arith

-- what a test of some row says
pub or_false : (a b : Bool) → (a || b) ≡ false → (a ≡ false) × (b ≡ false)
or_false true b h = absurd (true≢false h)
or_false false b h = (refl, h)

pub some_none : (test : Row → Bool) (rows : List Row) → some_row test rows ≡ false → (p : Row) → p ∈ rows → test p ≡ false
unfolding some_row
some_none test [] h p m = absurd (Memᴰ.not-nil m)
some_none test (q ∷ rows) h p m =
    let c = or_false _ _ h in
    ⊎_elim (λ e. ap test e ∙ c.0) (λ n. some_none test rows c.1 p n) (Memᴰ.cases_cons m)

pub some_row_lem : (test : Row → Bool) (rows : List Row) → some_row test rows ≡ true → (p : Row) × (p ∈ rows) × (test p ≡ true)
unfolding some_row
some_row_lem test [] h = absurd (false≢true h)
some_row_lem test (p ∷ rows) h =
    ⊎_elim (λ e. (p, Memᴰ.head refl, e)) (λ e. let r = some_row_lem test rows e in (r.0, there r.1, r.2)) (or_cases (test p) _ h)

-- no pair is at fault: its ends differ, and with a pair b, c after a, b there is a, c
fault_none : (rows : List Row) → order_fault rows ≡ false → (p : Row) → p ∈ rows
    → (eqb (value p 0) (value p 1) ≡ false) × (some_row (gap rows (value p 0) (value p 1)) rows ≡ false)
unfolding order_fault pair_fault
fault_none rows h p m = or_false _ _ (some_none (pair_fault rows) rows h p m)

filled : (x y : Bool) → (x && not y) ≡ false → x ≡ true → y ≡ true
filled true true h t = refl
filled true false h t = absurd (true≢false h)
filled false y h t = absurd (false≢true t)

gap_filled : (rows : List Row) (a b : ℕ) → some_row (gap rows a b) rows ≡ false → (q : Row) → q ∈ rows → value q 0 ≡ b
    → (p : Row) × (p ∈ rows) × (value p 0 ≡ a) × (value p 1 ≡ value q 1)
unfolding gap same_ends
gap_filled rows a b h q m e =
    let r = some_row_lem (same_ends a (value q 1)) rows (filled _ _ (some_none (gap rows a b) rows h q m) (eq-eqb (value q 0) b e)) in
    (r.0, r.1, eqb-true _ _ (and_left _ _ r.2), eqb-true _ _ (and_right (eqb (value r.0 0) a) _ r.2))

pub order_passes : (rows : List Row) → order_fault rows ≡ false → OrderPasses (map order_pair_of rows)
unfolding order_pair_of
order_passes rows h = record { apart = apart; closed = closed }
  where
    apart : (a : End ℕ) → ¬ (record { less = a; more = a } ∈ map order_pair_of rows)
    apart a m =
        let r = map_elim order_pair_of rows m in
        let p = r.0 in
        let e = end_of_same (value p 0) (value p 1) (sym (ap (λ (o : OrderPair). o.less) r.2) ∙ ap (λ (o : OrderPair). o.more) r.2) in
        true_false (eq-eqb _ _ e) (fault_none rows h p r.1).0

    closed : (a b c : End ℕ) → record { less = a; more = b } ∈ map order_pair_of rows → record { less = b; more = c } ∈ map order_pair_of rows
        → record { less = a; more = c } ∈ map order_pair_of rows
    closed a b c m n =
        let r = map_elim order_pair_of rows m in
        let s = map_elim order_pair_of rows n in
        let p = r.0 in
        let q = s.0 in
        let meet = end_of_same (value q 0) (value p 1) (sym (ap (λ (o : OrderPair). o.less) s.2) ∙ ap (λ (o : OrderPair). o.more) r.2) in
        let w = gap_filled rows (value p 0) (value p 1) (fault_none rows h p r.1).1 q s.1 meet in
        let l : a ≡ end_of (value w.0 0) = ap (λ (o : OrderPair). o.less) r.2 ∙ ap end_of (sym w.2) in
        let k : c ≡ end_of (value w.0 1) = ap (λ (o : OrderPair). o.more) s.2 ∙ ap end_of (sym w.3) in
        Memᴰ.cast (λ i. record { less = l i; more = k i }) (map_intro order_pair_of w.1)
