-- Fixed bytes at a place of a text. Assumes nothing.
use Prim.Native.Nat.{ℕ, min, ◌-◌, ◌≤◌, ◌<◌}
use mathlib.Core.Path.{◌≡◌, refl, sym, ap, ◌∙◌}
use mathlib.Core.Bool.{Bool, true, false}
use mathlib.Core.Logic.{⊎_elim}
use mathlib.Core.List.{List, [], ◌∷◌, ◌++◌}
use native.Mathlib.Omega.{arith}
use lib.Dec.{eqb}
use lib.ListN.{length, take, drop}
use Rattle.std.proofs.lemmas.Slice.{between_to_end}
use borrow.Author.Tests.{eq-eqb, ne_eqb, eqb-true}
use Rattle.std.specs.declared.option.Option.{Option as Maybe}
use Rattle.std.specs.declared.option.Option.TheVariants.{Some, None as Nothing}
use Rattle.text_field.specs.Outcome.{Outcome, refused, done}
use Rattle.text_field.proofs.Steps.{drop_end}
use Rattle.graph_table.proofs.Tests.{below_or}
use Rattle.told.specs.Apart.{after}
use Rattle.told.specs.Steps.{place_meaning}

-- one byte
module _ (x y : ℕ) (p s : List ℕ) where
  pub after_same : x ≡ y → after (x ∷ p) (y ∷ s) ≡ after p s
  unfolding after
  after_same e = rw (eq-eqb x y e, after)

  pub after_other : (x ≡ y → ⊥) → after (x ∷ p) (y ∷ s) ≡ refused 10
  unfolding after
  after_other n = rw (ne_eqb x y n, after)

-- what stands after a beginning, and only that
pub after_append : (p t : List ℕ) → after p (p ++ t) ≡ done t
unfolding after
after_append [] t = refl
after_append (x ∷ p) t = after_same x x p (p ++ t) refl ∙ after_append p t

pub after_is : (p s t : List ℕ) → after p s ≡ done t → s ≡ p ++ t
unfolding after
after_is [] s t e = cc
after_is (x ∷ p) [] t e = absurd (let z : ◌≡◌ {A = ℕ} 0 1 = cc in omega arith)
after_is (x ∷ p) (y ∷ s) t e = by (eqb x y) refl e (after_is p s t)
  where
    by : (b : Bool) → eqb x y ≡ b → (elim b as (λ _. Outcome (List ℕ)) [ true ↦ after p s | false ↦ refused 10 ]) ≡ done t
        → (after p s ≡ done t → s ≡ p ++ t) → y ∷ s ≡ x ∷ (p ++ t)
    by true f g so = let k : x ≡ y = eqb-true x y f in rw (k, so g)
    by false f g so = absurd (let z : ◌≡◌ {A = ℕ} 0 1 = cc in omega arith)

-- nothing but 10 is told of one that is not there
pub after_ten : (p s : List ℕ) (n : ℕ) → after p s ≡ refused n → n ≡ 10
unfolding after
after_ten [] s n e = absurd (let z : ◌≡◌ {A = ℕ} 0 1 = cc in omega arith)
after_ten (x ∷ p) [] n e = cc
after_ten (x ∷ p) (y ∷ s) n e = by (eqb x y) e (after_ten p s n)
  where
    by : (b : Bool) → ◌≡◌ {A = Outcome (List ℕ)} (elim b as (λ _. Outcome (List ℕ)) [ true ↦ after p s | false ↦ refused 10 ]) (refused n)
        → (after p s ≡ refused n → n ≡ 10) → n ≡ 10
    by true g so = so g
    by false g so = cc

-- where the bytes stand at the start, or not
pub begins : (p s : List ℕ) → s ≡ p ++ drop (length p) s → done (drop (length p) s) ≡ after p s
begins p s e = sym (ap (after p) e ∙ after_append p (drop (length p) s))

pub begins_not : (p s : List ℕ) → ((rest : List ℕ) → s ≡ p ++ rest → ⊥) → refused 10 ≡ after p s
begins_not p s n = by (after p s) refl
  where
    by : (o : Outcome (List ℕ)) → after p s ≡ o → refused 10 ≡ after p s
    by (refused m) e = rw (← after_ten p s m e) (sym e)
    by (done t) e = absurd (n t (after_is p s t e))

-- what the code looks at stands from the place on, or nothing does
from_place : (s : List ℕ) (at n : ℕ) → n ≡ min at (length s) → drop n s ≡ drop at s
from_place s at n e =
    ⊎_elim (λ (h : at < length s). ap (λ (k : ℕ). drop k s) (omega arith))
    (λ (h : length s ≤ at). drop_end s n (omega arith) ∙ sym (drop_end s at h)) (below_or at (length s))

pub looked_at : (s : List ℕ) (at n : ℕ) → n ≡ min at (length s) → take (length s - n) (drop n s) ≡ drop at s
looked_at s at n e = between_to_end s n (length s) (omega arith) ∙ from_place s at n e

-- what a place in the text tells
module _ (s p t : List ℕ) (r : Maybe ℕ) (e : place_meaning s r ≡ after p t) where
  pub place_at : (next : ℕ) → r ≡ Some next → after p t ≡ done (drop next s)
  unfolding place_meaning
  place_at next f = sym e ∙ ap (place_meaning s) f

  pub place_none : r ≡ Nothing → after p t ≡ refused 10
  unfolding place_meaning
  place_none f = sym e ∙ ap (place_meaning s) f
