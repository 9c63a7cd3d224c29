-- A sum over a list without repetitions is no more than that over a list that has its elements.
-- Assumes nothing.
use Prim.Native.Nat.{ℕ, ◌+◌, ◌≤◌}
use native.Mathlib.Omega.{arith}
use mathlib.Core.Path.{◌≡◌, sym, ap, ◌∙◌}
use mathlib.Core.Logic.{◌⊎◌, inl, inr, ⊎_elim}
use mathlib.Core.List.Memᴰ
use mathlib.Core.List.{List, [], ◌∷◌}
use Rattle.scope_graph.specs.Language.{◌∈◌}
use Rattle.scope_graph.specs.Stable.{Within}
use Rattle.scope_graph.specs.TakenIn.{NoneTwice}
use Rattle.scope_graph.proofs.Lists.{here, there}

module _ {A : Type 0} (f : A → ℕ) where
  unfoldable pub sum_by : List A → ℕ
  sum_by [] = 0
  sum_by (x ∷ xs) = f x + sum_by xs

  -- the list without one element, told by where it stands
  rest : {x : A} {ys : List A} → x ∈ ys → List A
  rest (Memᴰ.head {xs = ys} e) = ys
  rest (Memᴰ.tail {x = y} m) = y ∷ rest m

  rest_sum : {x : A} {ys : List A} (m : x ∈ ys) → sum_by ys ≡ f x + sum_by (rest m)
  unfolding rest sum_by
  rest_sum (Memᴰ.head {xs = ys} e) = ap (λ (y : A). f y + sum_by ys) (sym e)
  rest_sum (Memᴰ.tail m) = let k = rest_sum m in omega arith

  rest_or_lem : {x y : A} {ys : List A} (m : x ∈ ys) → y ∈ ys → (y ≡ x) ⊎ (y ∈ rest m)
  unfolding rest
  rest_or_lem (Memᴰ.head e) k = ⊎_elim (λ z. inl (z ∙ sym e)) (λ z. inr z) (Memᴰ.cases_cons k)
  rest_or_lem (Memᴰ.tail m) k =
      ⊎_elim (λ z. inr (Memᴰ.head z)) (λ z. ⊎_elim (λ w. inl w) (λ w. inr (there w)) (rest_or_lem m z)) (Memᴰ.cases_cons k)

  pub once_sum : (xs ys : List A) → NoneTwice xs → Within xs ys → sum_by xs ≤ sum_by ys
  unfolding sum_by
  once_sum [] ys d h = omega arith
  once_sum (x ∷ xs) ys d h =
      let m = h x here in
      let k = once_sum xs (rest m) d.1 (λ y w. ⊎_elim (λ e. absurd (d.0 y w (sym e))) (λ z. z) (rest_or_lem m (h y (there w)))) in
      omega (arith, rest_sum m)
