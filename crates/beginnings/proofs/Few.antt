-- How many scopes are free: fewer with fewer free, one more with one more, and n below n. Assumes
-- nothing.
use Prim.Native.Nat.{ℕ, zero, suc, ◌<◌}
use mathlib.Core.Path.{◌≡◌, sym, ap, ◌∙◌}
use mathlib.Core.Logic.{◌⊎◌, inl, inr}
use mathlib.Core.Bool.{Bool, true, false, not}
use native.Mathlib.Omega.{arith}
use borrow.Author.Tests.{eqb-true, eqb-false, eq-eqb, lt-ltb, ltb-true}
use lib.Dec.{eqb, ltb}
use Rattle.scope_graph.proofs.Lists.{Two, true_false, not_true, and_left, and_right, and_both}
use Rattle.search.specs.Board.{without}
use Rattle.search.proofs.Closed.{Within}
use Rattle.beginnings.specs.Steps.{Few}

-- a scope that is free without another
pub without_free : (free : ℕ → Bool) (s t : ℕ) → without free s t ≡ true → free t ≡ true
unfolding without
without_free free s t h = and_left (free t) _ h

pub without_both : (few many : ℕ → Bool) (s : ℕ) → Within few many → Within (without few s) (without many s)
unfolding without
without_both few many s w t h = and_both (many t) _ (w t (and_left (few t) _ h)) (and_right (few t) _ h)

pub few_less : (n : ℕ) (few many : ℕ → Bool) → Within few many → Few n many → Few n few
unfolding Few
few_less zero few many w f = λ t. not_true (few t) (λ e. true_false (w t e) (f t))
few_less (suc n) few many w f = λ t e. few_less n (without few t) (without many t) (without_both few many t w) (f t (w t e))

-- a scope that is free without another is not that one
apart : (free : ℕ → Bool) (s t : ℕ) → without free s t ≡ true → t ≡ s → ⊥
unfolding without
apart free s t h e = true_false (and_right (free t) _ h) (ap not (eq-eqb t s e))

-- one more
pub few_more : (n : ℕ) (few many : ℕ → Bool) (x : ℕ) → ((t : ℕ) → many t ≡ true → (t ≡ x → ⊥) → few t ≡ true) → Few n few → Few (suc n) many
unfolding Few without
few_more zero few many x more f = λ t m. at t m (Two (eqb t x))
  where
    at : (t : ℕ) → many t ≡ true → (eqb t x ≡ true) ⊎ (eqb t x ≡ false) → Few zero (without many t)
    at t m (inr e) = absurd (true_false (more t m (eqb-false t x e)) (f t))
    at t m (inl e) = λ u. not_true (without many t u)
        (λ y. true_false (more u (without_free many t u y) (λ k. apart many t u y (k ∙ sym (eqb-true t x e)))) (f u))
few_more (suc n) few many x more f =
    λ t m. at t m (Two (eqb t x))
    (λ other. few_more n (without few t) (without many t) x
    (λ u y k. and_both (few u) _ (more u (without_free many t u y) k) (and_right (many u) _ y)) (f t (more t m other)))
  where
    at : (t : ℕ) → many t ≡ true → (eqb t x ≡ true) ⊎ (eqb t x ≡ false) → ((t ≡ x → ⊥) → Few (suc n) (without many t)) → Few (suc n) (without many t)
    at t m (inl e) next = few_less (suc n) (without many t) few (λ u y. more u (without_free many t u y) (λ k. apart many t u y (k ∙ sym (eqb-true t x e)))) f
    at t m (inr e) next = next (eqb-false t x e)

-- the scopes below n are n
pub few_below : (n : ℕ) → Few n (λ t. ltb t n)
unfolding Few
few_below zero = λ t. not_true (ltb t 0) (λ e. let h : t < 0 = ltb-true t 0 e in omega arith)
few_below (suc n) =
    few_more n (λ t. ltb t n) (λ t. ltb t (suc n)) n
    (λ t e other. let h : t < suc n = ltb-true t (suc n) e in lt-ltb t n (omega arith)) (few_below n)
