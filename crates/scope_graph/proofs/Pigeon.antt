-- The pigeonhole: a list of different numbers below n has at most n of them. Assumes nothing.
use Prim.Native.Nat.{ℕ, zero, suc, ◌≤◌, ◌<◌}
use mathlib.Core.Path.{◌≡◌, refl, sym, ap}
use mathlib.Core.Bool.{Bool, true, false, not}
use mathlib.Core.List.Memᴰ
use mathlib.Core.List.{List, [], ◌∷◌}
use native.Mathlib.Omega.{arith}
use lib.Dec.{eqb}
use borrow.Author.Tests.{eqb-true, eqb-false, eq-eqb, ne_eqb}
use lib.ListN.{length}
use Rattle.scope_graph.specs.Language.{◌∈◌}
use Rattle.scope_graph.specs.Path.{Distinct}
use Rattle.scope_graph.specs.Rows.{any_of}
use Rattle.scope_graph.specs.Computed.{keep}
use Rattle.scope_graph.proofs.Lists.{here, there, not_is, is_not, true_false, any_of_intro, any_of_elim, any_of_false, keep_elim}

-- whether a number stands in a list is what the test says
pub in_true : (x : ℕ) (xs : List ℕ) → any_of (eqb x) xs ≡ true → x ∈ xs
in_true x xs h = let r = any_of_elim (eqb x) xs h in Memᴰ.cast (eqb-true x r.0 r.2) r.1

pub in_test : (x : ℕ) (xs : List ℕ) → x ∈ xs → any_of (eqb x) xs ≡ true
in_test x xs m = any_of_intro (eqb x) m (eq-eqb x x refl)

pub not_in : (x : ℕ) (xs : List ℕ) → any_of (eqb x) xs ≡ false → ¬ (x ∈ xs)
not_in x xs h m = true_false (in_test x xs m) h

pub not_in_test : (x : ℕ) (xs : List ℕ) → ¬ (x ∈ xs) → any_of (eqb x) xs ≡ false
not_in_test x xs h = any_of_false (eqb x) xs (λ a m e. h (Memᴰ.cast (eqb-true x a e) m))

-- all numbers of the list but n
without : ℕ → List ℕ → List ℕ
without n xs = keep (λ x. not (eqb x n)) xs

without_in : {x : ℕ} (n : ℕ) (xs : List ℕ) → x ∈ without n xs → (x ∈ xs) × ¬ (x ≡ n)
unfolding without
without_in {x} n xs m =
    let r = keep_elim (λ x. not (eqb x n)) xs m in
    (r.0, eqb-false x n (not_is (eqb x n) r.1))

without_distinct : (n : ℕ) (xs : List ℕ) → Distinct xs → Distinct (without n xs)
unfolding without keep
without_distinct n [] d = tt
without_distinct n (x ∷ xs) d = step (not (eqb x n)) (without_distinct n xs d.1)
  where
    step : (b : Bool) → Distinct (without n xs) → Distinct (elim b as (λ _. List ℕ) [ true ↦ x ∷ without n xs | false ↦ without n xs ])
    step true k = ((λ m. d.0 (without_in n xs m).0), k)
    step false k = k

-- a list without n keeps its length, one of different numbers loses one at the most
without_none : (n : ℕ) (xs : List ℕ) → ¬ (n ∈ xs) → length (without n xs) ≡ length xs
unfolding without keep
without_none n [] h = refl
without_none n (x ∷ xs) h =
    rw (is_not (eqb x n) (ne_eqb x n (λ e. h (Memᴰ.head (sym e)))), keep) (ap suc (without_none n xs (λ m. h (there m))))

without_one : (n : ℕ) (xs : List ℕ) → Distinct xs → length xs ≤ suc (length (without n xs))
unfolding without keep
without_one n [] d = omega arith
without_one n (x ∷ xs) d = step (eqb x n) refl (without_one n xs d.1)
  where
    step : (b : Bool) → eqb x n ≡ b → length xs ≤ suc (length (without n xs))
        → suc (length xs) ≤ suc (length {A = ℕ} (elim (not b) as (λ _. List ℕ) [ true ↦ x ∷ without n xs | false ↦ without n xs ]))
    step true e k = omega (arith, without_none n xs (λ m. d.0 (Memᴰ.cast (eqb-true x n e) m)))
    step false e k = omega arith

pub distinct_bounded : (n : ℕ) (xs : List ℕ) → Distinct xs → ((x : ℕ) → x ∈ xs → x < n) → length xs ≤ n
distinct_bounded zero [] d h = omega arith
distinct_bounded zero (x ∷ xs) d h = let z = h x here in omega arith
distinct_bounded (suc n) xs d h =
    let k = distinct_bounded n (without n xs) (without_distinct n xs d) below in
    omega (arith, without_one n xs d)
  where
    below : (x : ℕ) → x ∈ without n xs → x < n
    below x m = let r = without_in n xs m in omega (arith, h x r.0, r.1)
