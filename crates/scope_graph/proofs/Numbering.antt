-- Renumberings of the numbers below n: one extended to all numbers, and the one that a list gives
-- (02, K13). Assumes nothing.
use Prim.Native.Nat.{ℕ, zero, suc, ◌<◌, ◌≤◌}
use native.Mathlib.Omega.{arith}
use mathlib.Core.Path.{◌≡◌, refl, sym, ap, ◌∙◌}
use mathlib.Core.Bool.{Bool, true, false}
use mathlib.Core.Logic.{◌⊎◌, inl, inr, ⊎_elim}
use mathlib.Core.List.Memᴰ
use mathlib.Core.List.{List, [], ◌∷◌}
use lib.Dec.{eqb, ltb}
use lib.ListN.{length, get_or}
use borrow.Author.Tests.{ltb-true, ltb-false, eqb-true, eqb-false, eq-eqb, lt-ltb, le-ltb, ne_eqb}
use Rattle.scope_graph.specs.Language.{◌∈◌}
use Rattle.scope_graph.specs.Path.{Distinct}
use Rattle.scope_graph.specs.Rows.{any_of}
use Rattle.scope_graph.specs.Renamed.{Renumbers, place_of, new_number, old_number}
use Rattle.scope_graph.proofs.Lists.{Two, here, there}
use Rattle.scope_graph.proofs.Pigeon.{in_true, not_in, distinct_bounded}
use Rattle.scope_graph.proofs.Throughout.{Throughout}

-- f below n, and from n on each number itself
pub over : ℕ → (ℕ → ℕ) → ℕ → ℕ
over n f x = elim (ltb x n) [ true ↦ f x | false ↦ x ]

pub over_below : (n : ℕ) (f : ℕ → ℕ) (x : ℕ) → x < n → over n f x ≡ f x
unfolding over
over_below n f x h = rw (lt-ltb x n h, over)

over_above : (n : ℕ) (f : ℕ → ℕ) (x : ℕ) → n ≤ x → over n f x ≡ x
unfolding over
over_above n f x h = rw (le-ltb x n h, over)

below_or : (n x : ℕ) → (x < n) ⊎ (n ≤ x)
below_or n x = ⊎_elim (λ e. inl (ltb-true x n e)) (λ e. inr (ltb-false x n e)) (Two (ltb x n))

over_back : (n : ℕ) (f b : ℕ → ℕ) → Renumbers n f b → (x : ℕ) → over n b (over n f x) ≡ x
over_back n f b r x =
    ⊎_elim (λ h. ap (over n b) (over_below n f x h) ∙ over_below n b (f x) (r.new_below x h) ∙ r.back x h)
    (λ h. ap (over n b) (over_above n f x h) ∙ over_above n b x h) (below_or n x)

pub over_stays : (n : ℕ) (f : ℕ → ℕ) → ((x : ℕ) → x < n → f x < n) → (m x : ℕ) → n ≤ m → x < m → over n f x < m
over_stays n f h m x le l =
    ⊎_elim (λ k. rw (over_below n f x k) (omega (arith, h x k))) (λ k. rw (over_above n f x k) l) (below_or n x)

pub other_way : {n : ℕ} {f b : ℕ → ℕ} → Renumbers n f b → Renumbers n b f
other_way r = record { new_below = r.old_below; old_below = r.new_below; back = r.forth; forth = r.back }

pub throughout : (n : ℕ) (f b : ℕ → ℕ) → Renumbers n f b → Throughout n (over n f) (over n b)
throughout n f b r = record {
  back = over_back n f b r;
  forth = over_back n b f (other_way r);
  new_below = over_stays n f r.new_below;
  old_below = over_stays n b r.old_below;
  new_above = λ x h. rw (over_above n f x h) h;
  old_above = λ x h. rw (over_above n b x h) h;
}

-- a number stands at its place in a list, and the place of the number at i is i
place_in : (x : ℕ) (xs : List ℕ) → x ∈ xs → (place_of x xs < length xs) × (get_or xs (place_of x xs) 0 ≡ x)
unfolding place_of
place_in x [] m = absurd (Memᴰ.not-nil m)
place_in x (y ∷ ys) m = step (eqb x y) refl (place_in x ys)
  where
    step : (t : Bool) → eqb x y ≡ t → (x ∈ ys → (place_of x ys < length ys) × (get_or ys (place_of x ys) 0 ≡ x))
        → ((elim t as (λ _. ℕ) [ true ↦ 0 | false ↦ suc (place_of x ys) ]) < suc (length ys))
        × (get_or (y ∷ ys) (elim t as (λ _. ℕ) [ true ↦ 0 | false ↦ suc (place_of x ys) ]) 0 ≡ x)
    step true e ih = (omega arith, sym (eqb-true x y e))
    step false e ih =
        ⊎_elim (λ z. absurd (eqb-false x y e z)) (λ k. let r = ih k in (omega (arith, r.0), r.1)) (Memᴰ.cases_cons m)

at_place : (xs : List ℕ) (i : ℕ) → i < length xs → get_or xs i 0 ∈ xs
at_place [] i h = absurd (omega arith)
at_place (x ∷ xs) zero h = here
at_place (x ∷ xs) (suc i) h = there (at_place xs i (omega arith))

place_of_lem : (xs : List ℕ) (i : ℕ) → Distinct xs → i < length xs → place_of (get_or xs i 0) xs ≡ i
unfolding place_of
place_of_lem [] i d h = absurd (omega arith)
place_of_lem (x ∷ xs) zero d h = rw (eq-eqb x x refl, place_of)
place_of_lem (x ∷ xs) (suc i) d h =
    let k : i < length xs = omega arith in
    rw (ne_eqb (get_or xs i 0) x (λ e. d.0 (Memᴰ.cast (sym e) (at_place xs i k))), place_of) (ap suc (place_of_lem xs i d.1 k))

pub by_list : (n : ℕ) (was : List ℕ) → length was ≡ n → Distinct was → ((x : ℕ) → x ∈ was → x < n) → Renumbers n (new_number was) (old_number was)
by_list n was l d h = record {
  new_below = λ x k. omega (arith, (place_in x was (each x k)).0);
  old_below = λ i k. h _ (at_place was i (omega arith));
  back = λ x k. (place_in x was (each x k)).1;
  forth = λ i k. place_of_lem was i d (omega arith);
}
  where
    each : (x : ℕ) → x < n → x ∈ was
    each x k =
        ⊎_elim (in_true x was)
        (λ e. absurd (omega (arith, distinct_bounded n (x ∷ was) (not_in x was e, d) (within x k)))) (Two (any_of (eqb x) was))
      where
        within : (x : ℕ) → x < n → (y : ℕ) → y ∈ (x ∷ was) → y < n
        within x k y m = ⊎_elim (λ e. omega arith) (h y) (Memᴰ.cases_cons m)
