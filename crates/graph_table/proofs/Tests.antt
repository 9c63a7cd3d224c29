-- Small laws of tests. Assumes nothing.
use Prim.Native.Nat.{ℕ, ◌≤◌, ◌<◌}
use mathlib.Core.Path.{◌≡◌, refl, sym, ◌∙◌}
use mathlib.Core.Bool.{Bool, true, false, ◌&&◌, ◌||◌}
use mathlib.Core.Logic.{◌⊎◌, inl, inr, ⊎_elim}
use lib.Dec.{eqb, ltb}
use borrow.Author.Tests.{ltb-true, ltb-false, eq-eqb, ne_eqb, eqb-true, eqb-false}
use Rattle.scope_graph.proofs.Lists.{Two}

pub below_or : (a b : ℕ) → (a < b) ⊎ (b ≤ a)
below_or a b = ⊎_elim (λ (y : ltb a b ≡ true). inl (ltb-true a b y)) (λ (n : ltb a b ≡ false). inr (ltb-false a b n)) (Two (ltb a b))

pub and_second : (a b : Bool) → b ≡ false → (a && b) ≡ false
and_second true b e = e
and_second false b e = refl

pub and_first : (a b : Bool) → a ≡ false → (a && b) ≡ false
and_first a b e = rw e

pub and_rest : (a b : Bool) → a ≡ true → (a && b) ≡ b
and_rest a b e = rw e

pub and_true : (a b : Bool) → b ≡ true → (a && b) ≡ a
and_true true b e = e
and_true false b e = refl

pub or_false : (b : Bool) → (b || false) ≡ b
or_false true = refl
or_false false = refl

pub or_rest : (a b : Bool) → a ≡ false → (a || b) ≡ b
or_rest a b e = rw e

-- one test more among those that came before
pub or_then : (f t a : Bool) → ((f || t) || a) ≡ (f || (elim t as (λ _. Bool) [ true ↦ true | false ↦ a ]))
or_then true t a = refl
or_then false true a = refl
or_then false false a = refl

pub flip : (x y : ℕ) → eqb x y ≡ eqb y x
flip x y =
    ⊎_elim (λ (e : eqb x y ≡ true). e ∙ sym (eq-eqb y x (sym (eqb-true x y e))))
    (λ (e : eqb x y ≡ false). e ∙ sym (ne_eqb y x (λ z. eqb-false x y e (sym z))))
    (Two (eqb x y))
