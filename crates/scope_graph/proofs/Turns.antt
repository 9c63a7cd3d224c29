-- Steps with turns: the tests of equality are right, at one label the later turn is a strict order,
-- and a listed turn is below the number above them all. Assumes nothing.
use Prim.Native.Nat.{ℕ, suc, ◌+◌}
use mathlib.Core.Path.{◌≡◌, refl, ap, ◌∙◌}
use mathlib.Core.Bool.{true, false≢true}
use mathlib.Core.Option.{Option, some, none}
use mathlib.Core.Logic.{⊎_elim}
use mathlib.Core.List.Memᴰ
use mathlib.Core.List.{List, [], ◌∷◌}
use native.Mathlib.Omega.{arith}
use lib.Dec.{eqb}
use borrow.Author.Tests.{eqb-true, eq-eqb, ltb-true, lt-ltb}
use Rattle.scope_graph.specs.Language.{◌∈◌, End, stop, by}
use Rattle.scope_graph.specs.Turns.{Turned, same_turn, same_turned, later, label_end, later_step, above_one, above}
use Rattle.scope_graph.proofs.Lists.{and_left, and_right, and_both}

pub turn_is : (a b : Option ℕ) → same_turn a b ≡ true → a ≡ b
unfolding same_turn
turn_is none none h = refl
turn_is none (some u) h = absurd (false≢true h)
turn_is (some t) none h = absurd (false≢true h)
turn_is (some t) (some u) h = ap some (eqb-true t u h)

pub turn_self : (a : Option ℕ) → same_turn a a ≡ true
unfolding same_turn
turn_self none = refl
turn_self (some t) = eq-eqb t t refl

later_not : (a : Option ℕ) → later a a ≡ true → ⊥
unfolding later
later_not none h = false≢true h
later_not (some t) h = let k = ltb-true t t h in omega arith

later_then : (a b c : Option ℕ) → later a b ≡ true → later b c ≡ true → later a c ≡ true
unfolding later
later_then none b c h k = absurd (false≢true h)
later_then (some t) none c h k = absurd (false≢true h)
later_then (some t) (some u) none h k = absurd (false≢true k)
later_then (some t) (some u) (some v) h k = let x = ltb-true u t h in let y = ltb-true v u k in lt-ltb v t (omega arith)

pub turned_is : (a b : Turned) → same_turned a b ≡ true → a ≡ b
unfolding same_turned
turned_is a b h =
    let e = eqb-true a.label b.label (and_left _ _ h) in
    let f = turn_is a.turn b.turn (and_right (eqb a.label b.label) _ h) in
    λ i. record { label = e i; turn = f i }

pub turned_self : (a : Turned) → same_turned a a ≡ true
unfolding same_turned
turned_self a = and_both _ _ (eq-eqb a.label _ refl) (turn_self a.turn)

-- steps of one label by turn
pub step_labels : (a b : End Turned) → later_step a b ≡ true → label_end a ≡ label_end b
unfolding later_step
step_labels stop b h = absurd (false≢true h)
step_labels (by t) stop h = absurd (false≢true h)
step_labels (by t) (by u) h = ap by (eqb-true t.label u.label (and_left _ _ h))

pub step_not : (a : End Turned) → later_step a a ≡ true → ⊥
unfolding later_step
step_not stop h = false≢true h
step_not (by t) h = later_not t.turn (and_right (eqb t.label t.label) _ h)

pub step_then : (a b c : End Turned) → later_step a b ≡ true → later_step b c ≡ true → later_step a c ≡ true
unfolding later_step
step_then stop b c h k = absurd (false≢true h)
step_then (by t) stop c h k = absurd (false≢true h)
step_then (by t) (by u) stop h k = absurd (false≢true k)
step_then (by t) (by u) (by v) h k =
    and_both _ _ (eq-eqb t.label v.label (eqb-true _ _ (and_left _ _ h) ∙ eqb-true _ _ (and_left _ _ k)))
    (later_then t.turn u.turn v.turn (and_right (eqb t.label u.label) _ h) (and_right (eqb u.label v.label) _ k))

-- no turn of the list is as high
above_own : (o : Option ℕ) (n : ℕ) → later o (some (above_one o n)) ≡ true → ⊥
unfolding above_one later
above_own none n h = false≢true h
above_own (some t) n h = let k = ltb-true (suc (t + n)) t h in omega arith

above_lower : (o p : Option ℕ) (n : ℕ) → later o (some (above_one p n)) ≡ true → later o (some n) ≡ true
unfolding above_one later
above_lower none p n h = h
above_lower (some v) none n h = h
above_lower (some v) (some t) n h = let k = ltb-true (suc (t + n)) v h in lt-ltb n v (omega arith)

above_all : (ts : List Turned) (u : Turned) → u ∈ ts → later u.turn (some (above ts)) ≡ true → ⊥
unfolding above
above_all [] u m h = Memᴰ.not-nil m
above_all (t ∷ ts) u m h =
    ⊎_elim (λ e. above_own t.turn (above ts) (rw e at h)) (λ k. above_all ts u k (above_lower u.turn t.turn (above ts) h)) (Memᴰ.cases_cons m)

pub step_above : (ts : List Turned) (t u : Turned) → u ∈ ts → later_step (by u) (by (record { label = t.label; turn = some (above ts) })) ≡ true → ⊥
unfolding later_step
step_above ts t u m h = above_all ts u m (and_right (eqb u.label t.label) _ h)
