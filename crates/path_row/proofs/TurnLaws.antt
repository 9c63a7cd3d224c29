-- Turns that are looked up among hops: whose turn it is, and that two steps from one scope by one
-- letter to one scope have the same. Assumes nothing.
use mathlib.Core.Path.{◌≡◌, refl, sym, ap, ◌∙◌}
use mathlib.Core.Bool.{Bool, true, false, ◌&&◌, and-false}
use mathlib.Core.Option.{Option, some, none}
use mathlib.Core.Logic.{◌⊎◌, inl, inr, ⊎_elim}
use mathlib.Core.List.Memᴰ
use mathlib.Core.List.{List, [], ◌∷◌}
use Prim.Native.Nat.{ℕ}
use native.Mathlib.Omega.{arith}
use borrow.Author.Tests.{eqb-true, eq-eqb}
use lib.Dec.{eqb}
use Rattle.scope_graph.specs.Language.{◌∈◌, End, stop, by}
use Rattle.scope_graph.specs.Path.{HopOf}
use Rattle.scope_graph.specs.Turns.{Turned, same_turn, same_turned, later, later_step, turn_by}
use Rattle.scope_graph.proofs.Lists.{Two, true_false, and_left, and_right, and_both, here, there}
use Rattle.scope_graph.proofs.Turns.{turn_self}
use Rattle.path_row.specs.declared.form.Step.{Step}
use Rattle.path_row.specs.Numbering.{label_number, hop_of}

-- does the hop go by the label to the scope?
abbrev pub goes_to : ℕ → ℕ → HopOf Turned → Bool
goes_to l t h = eqb h.step.label l && eqb h.to t

module _ (l t : ℕ) (h : HopOf Turned) (hs : List (HopOf Turned)) where
  pub turn_here : goes_to l t h ≡ true → turn_by (h ∷ hs) l t ≡ h.step.turn
  unfolding turn_by
  turn_here e = rw (e, turn_by)

  pub turn_next : goes_to l t h ≡ false → turn_by (h ∷ hs) l t ≡ turn_by hs l t
  unfolding turn_by
  turn_next e = rw (e, turn_by)

-- a label that no hop goes by
pub turn_none : (hs : List (HopOf Turned)) (l t : ℕ) → ((h : HopOf Turned) → h ∈ hs → h.step.label ≡ l → ⊥) → turn_by hs l t ≡ none
unfolding turn_by
turn_none [] l t none_is = refl
turn_none (h ∷ hs) l t none_is =
    ⊎_elim
    (λ (e : goes_to l t h ≡ true). absurd (none_is h here (eqb-true _ _ (and_left _ _ e))))
    (λ (e : goes_to l t h ≡ false). turn_next l t h hs e ∙ turn_none hs l t (λ k m. none_is k (there m)))
    (Two (goes_to l t h))

-- the turn of a hop, where all by its label to its scope have that turn
pub turn_is : (hs : List (HopOf Turned)) (h : HopOf Turned) → h ∈ hs
    → ((k : HopOf Turned) → k ∈ hs → k.step.label ≡ h.step.label → k.to ≡ h.to → k.step.turn ≡ h.step.turn)
    → turn_by hs h.step.label h.to ≡ h.step.turn
turn_is [] h m same = absurd (Memᴰ.not-nil m)
turn_is (k ∷ hs) h m same =
    ⊎_elim
    (λ (e : goes_to h.step.label h.to k ≡ true).
    turn_here h.step.label h.to k hs e
    ∙ same k here (eqb-true _ _ (and_left _ _ e)) (eqb-true _ _ (and_right (eqb k.step.label h.step.label) _ e)))
    (λ (e : goes_to h.step.label h.to k ≡ false).
    turn_next h.step.label h.to k hs e
    ∙ ⊎_elim
    (λ (z : h ≡ k). absurd (true_false
    (and_both _ _ (eq-eqb _ _ (ap (λ (x : HopOf Turned). x.step.label) (sym z))) (eq-eqb _ _ (ap (λ (x : HopOf Turned). x.to) (sym z)))) e))
    (λ n. turn_is hs h n (λ x o. same x (there o)))
    (Memᴰ.cases_cons m))
    (Two (goes_to h.step.label h.to k))

-- a turn that is found is that of a hop by the label to the scope
pub turn_found : (hs : List (HopOf Turned)) (l t n : ℕ) → turn_by hs l t ≡ some n
    → record { step = record { label = l; turn = some n }; to = t } ∈ hs
unfolding turn_by
turn_found [] l t n e = absurd (let z : ◌≡◌ {A = ℕ} 0 1 = cc in omega arith)
turn_found (h ∷ hs) l t n e =
    ⊎_elim
    (λ (g : goes_to l t h ≡ true).
    let label = eqb-true h.step.label l (and_left _ _ g) in
    let to = eqb-true h.to t (and_right (eqb h.step.label l) _ g) in
    let turn = sym (turn_here l t h hs g) ∙ e in
    Memᴰ.head (sym (λ i. record { step = record { label = label i; turn = turn i }; to = to i })))
    (λ (g : goes_to l t h ≡ false). there (turn_found hs l t n (sym (turn_next l t h hs g) ∙ e)))
    (Two (goes_to l t h))

-- Two steps that leave one scope are the same hop exactly if they have one label and one scope:
-- their turns are then the same.
module _ (leaving : ℕ → List (HopOf Turned)) (letters : List ℕ) (s : ℕ) (t u : Step) where
  abbrev same_step : Bool
  same_step = eqb (label_number letters t.label) (label_number letters u.label) && eqb t.scope u.scope

  by_turn : (l k a b : ℕ) → ((eqb l k && same_turn (turn_by (leaving s) l a) (turn_by (leaving s) k b)) && eqb a b) ≡ (eqb l k && eqb a b)
  by_turn l k a b = at (Two (eqb l k)) (Two (eqb a b))
    where
      at : (eqb l k ≡ true) ⊎ (eqb l k ≡ false) → (eqb a b ≡ true) ⊎ (eqb a b ≡ false)
          → ((eqb l k && same_turn (turn_by (leaving s) l a) (turn_by (leaving s) k b)) && eqb a b) ≡ (eqb l k && eqb a b)
      at (inr e) f = rw e
      at (inl e) (inr f) = rw (e, f) (and-false (same_turn (turn_by (leaving s) l a) (turn_by (leaving s) k b)))
      at (inl e) (inl f) =
          rw (e, f, eqb-true l k e, eqb-true a b f, turn_self (turn_by (leaving s) k b))

  pub same_hop_lem : (same_turned (hop_of leaving letters s t).step (hop_of leaving letters s u).step && eqb t.scope u.scope) ≡ same_step
  unfolding same_turned hop_of
  same_hop_lem = by_turn (label_number letters t.label) (label_number letters u.label) t.scope u.scope

-- a step without a turn is later than none, and none is later than it
module _ (t : Turned) (e : End Turned) (h : t.turn ≡ none) where
  pub never_later : later_step (by t) e ≡ false
  unfolding later_step later
  never_later = at e
    where
      at : (x : End Turned) → later_step (by t) x ≡ false
      at stop = refl
      at (by u) = rw h (and-false (eqb t.label u.label))

  pub never_earlier : later_step e (by t) ≡ false
  unfolding later_step later
  never_earlier = at e
    where
      none_later : (o : Option ℕ) → later o none ≡ false
      none_later none = refl
      none_later (some n) = refl

      at : (x : End Turned) → later_step x (by t) ≡ false
      at stop = refl
      at (by u) = rw (h, none_later u.turn) (and-false (eqb u.label t.label))
