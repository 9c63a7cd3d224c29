-- The language of a gym file has the laws (specs/Promises, `LanguageLaws`). Assumes nothing.
use Prim.Native.Nat.{ℕ}
use mathlib.Core.Path.{◌≡◌, refl, sym, ap, subst}
use mathlib.Core.Bool.{Bool, true, false, ◌&&◌, ◌||◌, false≢true}
use mathlib.Core.Logic.{⊎_elim}
use mathlib.Core.Option.{Option, some}
use mathlib.Core.List.Memᴰ
use mathlib.Core.List.{List, [], ◌∷◌}
use native.Mathlib.Omega.{arith}
use lib.Dec.{eqb}
use borrow.Author.Tests.{eqb-true, eq-eqb}
use Rattle.scope_graph.specs.Language.{◌∈◌, End, stop, by}
use Rattle.scope_graph.specs.Turns.{Turned, label_end, later_step, above}
use Rattle.scope_graph.specs.Rows.{OrderPair, Transition, PackedName, same_end, same_name, preferred_by, next_by, OrderPasses}
use Rattle.scope_graph.specs.Promises.{LanguageLaws}
use Rattle.scope_graph.proofs.Lists.{not_true, and_left, and_right, and_both, or_cases, or_left, or_right, there, any_of_intro, any_of_elim}
use Rattle.scope_graph.proofs.Turns.{turned_is, turned_self, step_labels, step_not, step_then, step_above}

-- the tests of ends and of names are equality
pub same_end_is : (a b : End ℕ) → same_end a b ≡ true → a ≡ b
unfolding same_end
same_end_is stop stop h = refl
same_end_is stop (by k) h = absurd (false≢true h)
same_end_is (by l) stop h = absurd (false≢true h)
same_end_is (by l) (by k) h = ap by (eqb-true l k h)

pub same_end_self : (a : End ℕ) → same_end a a ≡ true
unfolding same_end
same_end_self stop = refl
same_end_self (by l) = eq-eqb l l refl

-- two tests of numbers at once
pub eqb_both : (a b c d : ℕ) → (eqb a b && eqb c d) ≡ true → (a ≡ b) × (c ≡ d)
eqb_both a b c d h = (eqb-true a b (and_left (eqb a b) (eqb c d) h), eqb-true c d (and_right (eqb a b) (eqb c d) h))

pub same_name_is : (x y : PackedName) → same_name x y ≡ true → x ≡ y
unfolding same_name
same_name_is x y h =
    let k = eqb-true x.kind y.kind (and_left _ _ h) in
    let e = eqb_both x.high y.high x.low y.low (and_right (eqb x.kind y.kind) _ h) in
    λ i. record { kind = k i; high = e.0 i; low = e.1 i }

pub same_name_self : (x : PackedName) → same_name x x ≡ true
unfolding same_name
same_name_self x =
    and_both _ _ (eq-eqb x.kind _ refl) (and_both _ _ (eq-eqb x.high _ refl) (eq-eqb x.low _ refl))

-- an end is preferred to another exactly if the pair is a row
pub preferred_by_row : (rows : List OrderPair) (a b : End ℕ) → preferred_by rows a b ≡ true → record { less = a; more = b } ∈ rows
unfolding preferred_by
preferred_by_row rows a b h =
    let r = any_of_elim _ rows h in
    let p = same_end_is r.0.less a (and_left _ _ r.2) in
    let t = same_end_is r.0.more b (and_right (same_end r.0.less a) _ r.2) in
    let e : r.0 ≡ record { less = a; more = b } = λ i. record { less = p i; more = t i } in
    rw e at r.1

pub row_preferred_by : (rows : List OrderPair) (a b : End ℕ) → record { less = a; more = b } ∈ rows → preferred_by rows a b ≡ true
unfolding preferred_by
row_preferred_by rows a b m = any_of_intro _ m (and_both _ _ (same_end_self a) (same_end_self b))

-- a next state is named by a row
pub next_by_row : (ts : List Transition) (q l r : ℕ) → next_by ts q l ≡ some r → record { state = q; label = l; next = r } ∈ ts
unfolding next_by
next_by_row [] q l r h = absurd (let z : ◌≡◌ {A = ℕ} 0 1 = cc in omega arith)
next_by_row (t ∷ ts) q l r h = step (eqb t.state q && eqb t.label l) refl h (next_by_row ts q l r)
  where
    Row : Transition
    Row = record { state = q; label = l; next = r }

    step : (b : Bool) → (eqb t.state q && eqb t.label l) ≡ b
        → (elim b as (λ _. Option ℕ) [ true ↦ some t.next | false ↦ next_by ts q l ]) ≡ some r
        → (next_by ts q l ≡ some r → Row ∈ ts) → Row ∈ (t ∷ ts)
    step true e k ih =
        let s = eqb_both t.state q t.label l e in
        let n : t.next ≡ r = cc in
        Memᴰ.head (λ i. record { state = sym s.0 i; label = sym s.1 i; next = sym n i })
    step false e k ih = there (ih k)

-- at one label the higher turn, else the order pairs: together a strict order
module _ (rows : List OrderPair) (pass : OrderPasses rows) where
  abbrev before : End Turned → End Turned → Bool
  before a b = preferred_by rows (label_end a) (label_end b) || later_step a b

  apart : (a : End Turned) → before a a ≡ false
  apart a =
      not_true _ (λ h.
      ⊎_elim (λ z. pass.apart (label_end a) (preferred_by_row rows _ _ z)) (step_not a)
      (or_cases (preferred_by rows (label_end a) (label_end a)) _ h))

  closed : (a b c : End Turned) → before a b ≡ true → before b c ≡ true → before a c ≡ true
  closed a b c h k =
      ⊎_elim
      (λ x.
      or_left (preferred_by rows (label_end a) (label_end c)) _
      (⊎_elim
      (λ y. row_preferred_by rows _ _ (pass.closed _ _ _ (preferred_by_row rows _ _ x) (preferred_by_row rows _ _ y)))
      (λ y. subst (λ z. preferred_by rows (label_end a) z ≡ true) (step_labels b c y) x)
      (or_cases (preferred_by rows (label_end b) (label_end c)) _ k)))
      (λ x.
      ⊎_elim
      (λ y.
      or_left (preferred_by rows (label_end a) (label_end c)) _
      (subst (λ z. preferred_by rows z (label_end c) ≡ true) (sym (step_labels a b x)) y))
      (λ y. or_right (preferred_by rows (label_end a) (label_end c)) _ (step_then a b c x y))
      (or_cases (preferred_by rows (label_end b) (label_end c)) _ k))
      (or_cases (preferred_by rows (label_end a) (label_end b)) _ h)

pub language_laws : LanguageLaws
unfolding later_step
language_laws r pass = record {
  step_same = turned_is;
  step_self = turned_self;
  name_same = same_name_is;
  name_self = same_name_self;
  irreflexive = apart r.order pass.order;
  transitive = closed r.order pass.order;
  next_label = λ q l s h. pass.labels _ (next_by_row r.transitions q l s h);
  next_state = λ q l s h. pass.states _ (next_by_row r.transitions q l s h);
  strongest_label = λ ts l. refl;
  strongest_carried = λ ts l. (above ts, refl);
  strongest_stop = λ ts t h. h;
  strongest_by = λ ts t u m h.
      ⊎_elim (λ z. or_left _ _ z) (λ z. absurd (step_above ts t u m z))
      (or_cases (preferred_by r.order (by u.label) (by t.label)) _ h);
  together_self = λ a e. refl;
}
