-- What `found_among` says of the scopes. Assumes nothing.
use Prim.Native.Nat.{ℕ, zero, suc, ◌<◌}
use mathlib.Core.Path.{◌≡◌, refl, sym, subst}
use mathlib.Core.Bool.{Bool, true, false}
use mathlib.Core.Logic.{◌⊎◌, inl, inr, ⊎_elim}
use native.Mathlib.Omega.{arith}
use lib.Dec.{eqb}
use borrow.Author.Tests.{eqb-true, eqb-false}
use Rattle.scope_graph.specs.Computed.{Found, found_none, found_one, found_several}
use Rattle.scope_graph.specs.Ends.{with_scope, found_among}
use Rattle.scope_graph.proofs.Lists.{Two, true_false}

-- what holds of n and of all below it holds of all below the next
split : (P : ℕ → Type 0) (n : ℕ) → P n → ((s : ℕ) → s < n → P s) → (s : ℕ) → s < suc n → P s
split P n p f s h =
    ⊎_elim (λ e. subst P (sym (eqb-true s n e)) p) (λ e. let k = eqb-false s n e in f s (omega arith)) (Two (eqb s n))

module _ (ends more : ℕ → Bool) where
  -- no scope below n is an end; one is, and has one mark; one is and has a second mark, or two are
  abbrev pub Among : ℕ → Found → Type 0
  Among n found_none = (s : ℕ) → s < n → ends s ≡ false
  Among n found_one = (s : ℕ) × (s < n) × (ends s ≡ true) × (more s ≡ false) × ((t : ℕ) → t < n → ends t ≡ true → t ≡ s)
  Among n found_several =
      ((s : ℕ) × (s < n) × (ends s ≡ true) × (more s ≡ true))
      ⊎ ((s : ℕ) × (t : ℕ) × (s < t) × (t < n) × (ends s ≡ true) × (ends t ≡ true))

  -- a scope that is no end changes nothing
  passed : (n : ℕ) → ends n ≡ false → (f : Found) → Among n f → Among (suc n) f
  passed n e found_none a = split (λ s. ends s ≡ false) n e a
  passed n e found_one a = (
    a.0,
    omega (arith, a.1),
    a.2,
    a.3,
    split (λ t. ends t ≡ true → t ≡ a.0) n (λ k. absurd (true_false k e)) a.4,
  )
  passed n e found_several (inl a) = inl (a.0, omega (arith, a.1), a.2, a.3)
  passed n e found_several (inr a) = inr (a.0, a.1, a.2, omega (arith, a.3), a.4, a.5)

  -- the first end
  first_end : (n : ℕ) → ends n ≡ true → (c : Bool) → more n ≡ c → Among n found_none
      → Among (suc n) (elim c as (λ _. Found) [ true ↦ found_several | false ↦ found_one ])
  first_end n e true k a = inl (n, omega arith, e, k)
  first_end n e false k a =
      (n, omega arith, e, k, split (λ t. ends t ≡ true → t ≡ n) n (λ _. refl) (λ t h j. absurd (true_false j (a t h))))

  -- a further one
  further_end : (n : ℕ) → ends n ≡ true → (f : Found) → Among n f → (c : Bool) → more n ≡ c → Among (suc n) (with_scope true c f)
  unfolding with_scope
  further_end n e found_none a c k = first_end n e c k a
  further_end n e found_one a c k = inr (a.0, n, a.1, omega arith, a.2, e)
  further_end n e found_several (inl a) c k = inl (a.0, omega (arith, a.1), a.2, a.3)
  further_end n e found_several (inr a) c k = inr (a.0, a.1, a.2, omega (arith, a.3), a.4, a.5)

  pub among_is : (n : ℕ) → Among n (found_among ends more n)
  unfolding found_among with_scope
  among_is zero = λ s h. absurd (omega arith)
  among_is (suc n) = step (ends n) refl (among_is n)
    where
      step : (b : Bool) → ends n ≡ b → Among n (found_among ends more n) → Among (suc n) (with_scope b (more n) (found_among ends more n))
      step false e a = passed n e (found_among ends more n) a
      step true e a = further_end n e (found_among ends more n) a (more n) refl
