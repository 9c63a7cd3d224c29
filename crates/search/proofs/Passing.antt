-- Laws of going through a set, the least number first: which number that is, what is left, and what
-- holds of all numbers once it holds of those passed. Assumes nothing.
use mathlib.Core.Path.{◌≡◌, refl, sym, ap, ◌∙◌}
use mathlib.Core.Logic.{◌⊎◌, inl, inr, ⊎_elim}
use mathlib.Core.Bool.{Bool, true, false, ◌||◌, false≢true}
use Prim.Native.Nat.{ℕ, zero, suc, ◌+◌, ◌-◌, ◌*◌, ◌/◌, ◌%◌, ◌^◌, ◌≤◌, ◌<◌}
use native.Mathlib.Omega.{arith}
use borrow.Author.Tests.{eqb-true, eqb-false, ltb-true, ltb-false, eq-eqb, ne_eqb}
use lib.Bits.{bit_and, and_step, and_self}
use lib.Count.{count_trailing_zeros}
use lib.Dec.{eqb, ltb}
use lib.Pow.{shr_lt, shr-shr}
use Rattle.scope_graph.proofs.Lists.{Two}
use Rattle.block.specs.Sets.{has_bit, has_scope, has_state}
use Rattle.block.proofs.SetLaws.{scope_in, scope_past, scopes_none, state_in, state_below}

-- the digits of a number: the lowest, and those of its half
bit_low : (a : ℕ) → has_bit a 0 ≡ eqb (a % 2) 1
unfolding has_bit
bit_low a = let whole : a / 2 ^ 0 ≡ a = omega arith in rw whole

bit_high : (a u : ℕ) → has_bit a (suc u) ≡ has_bit (a / 2) u
unfolding has_bit
bit_high a u =
    let next : suc u ≡ 1 + u = omega arith in
    let halves : a / 2 / 2 ^ u ≡ a / 2 ^ (1 + u) = shr-shr a 1 u in
    rw (next, ← halves)

half_below : (k a : ℕ) → a < 2 ^ suc k → a / 2 < 2 ^ k
half_below k a h = let next : suc k ≡ k + 1 = omega arith in shr_lt k 1 (rw next at h)

parity : (a : ℕ) → (a % 2 ≡ 1) ⊎ (a % 2 ≡ 0)
parity a = at (Two (eqb (a % 2) 1))
  where
    at : (eqb (a % 2) 1 ≡ true) ⊎ (eqb (a % 2) 1 ≡ false) → (a % 2 ≡ 1) ⊎ (a % 2 ≡ 0)
    at (inl e) = inl (eqb-true (a % 2) 1 e)
    at (inr e) = let other : a % 2 ≡ 1 → ⊥ = eqb-false (a % 2) 1 e in inr (omega arith)

-- an odd number's least digit is the lowest, and without it the number is twice its half; an even
-- number goes as its half does
module _ (k a : ℕ) (odd : a % 2 ≡ 1) where
  least_odd : count_trailing_zeros (suc k) a ≡ 0
  unfolding count_trailing_zeros
  least_odd = rw (odd, count_trailing_zeros)

  rest_odd : bit_and a (a - 1) ≡ a / 2 * 2
  rest_odd =
      let half : (a - 1) / 2 ≡ a / 2 = omega arith in
      let low : (a - 1) % 2 ≡ 0 = omega arith in
      and_step a (a - 1) ∙ rw (half, low, odd, and_self (a / 2)) (omega arith)

module _ (k a : ℕ) (even : a % 2 ≡ 0) where
  least_even : count_trailing_zeros (suc k) a ≡ suc (count_trailing_zeros k (a / 2))
  unfolding count_trailing_zeros
  least_even = rw (even, count_trailing_zeros)

  rest_even : 0 < a → bit_and a (a - 1) ≡ bit_and (a / 2) (a / 2 - 1) * 2
  rest_even some =
      let half : (a - 1) / 2 ≡ a / 2 - 1 = omega arith in
      let low : (a - 1) % 2 ≡ 1 = omega arith in
      and_step a (a - 1) ∙ rw (half, low, even) (omega arith)

pub least_below : (k a : ℕ) → 0 < a → a < 2 ^ k → count_trailing_zeros k a < k
least_below zero a h m = absurd (omega arith)
least_below (suc k) a h m = at (λ p. least_below k (a / 2) p (half_below k a m)) (parity a)
  where
    at : (0 < a / 2 → count_trailing_zeros k (a / 2) < k) → (a % 2 ≡ 1) ⊎ (a % 2 ≡ 0) → count_trailing_zeros (suc k) a < suc k
    at below (inl e) = let first = least_odd k a e in omega arith
    at below (inr e) =
        let next = least_even k a e in
        let half : 0 < a / 2 = omega arith in
        let less = below half in
        omega arith

or_true : (x : Bool) → (x || true) ≡ true
or_true true = refl
or_true false = refl

or_false : (x : Bool) → (x || false) ≡ x
or_false true = refl
or_false false = refl

same_next : (u t : ℕ) → eqb (suc u) (suc t) ≡ eqb u t
same_next u t = at (Two (eqb u t))
  where
    at : (eqb u t ≡ true) ⊎ (eqb u t ≡ false) → eqb (suc u) (suc t) ≡ eqb u t
    at (inl e) = eq-eqb (suc u) (suc t) (ap suc (eqb-true u t e)) ∙ sym e
    at (inr e) =
        let apart : u ≡ t → ⊥ = eqb-false u t e in
        let other : suc u ≡ suc t → ⊥ = λ x. apart (omega arith) in
        ne_eqb (suc u) (suc t) other ∙ sym e

-- twice a number has its digits, one higher
module _ (y : ℕ) where
  twice_low : has_bit (y * 2) 0 ≡ false
  twice_low = let low : y * 2 % 2 ≡ 0 = omega arith in bit_low (y * 2) ∙ rw low

  twice_high : (u : ℕ) → has_bit (y * 2) (suc u) ≡ has_bit y u
  twice_high u = let half : y * 2 / 2 ≡ y = omega arith in bit_high (y * 2) u ∙ rw half

rest_bits : (k a u : ℕ) → 0 < a → a < 2 ^ k → has_bit a u ≡ (has_bit (bit_and a (a - 1)) u || eqb u (count_trailing_zeros k a))
rest_bits zero a u h m = absurd (omega arith)
rest_bits (suc k) a zero h m = at (parity a)
  where
    at : (a % 2 ≡ 1) ⊎ (a % 2 ≡ 0) → has_bit a 0 ≡ (has_bit (bit_and a (a - 1)) 0 || eqb 0 (count_trailing_zeros (suc k) a))
    at (inl e) = bit_low a ∙ rw (e, least_odd k a e) (sym (or_true (has_bit (bit_and a (a - 1)) 0)))
    at (inr e) =
        let other : 0 ≡ suc (count_trailing_zeros k (a / 2)) → ⊥ = λ x. omega arith in
        bit_low a
        ∙ rw (e, least_even k a e, rest_even k a e h, twice_low (bit_and (a / 2) (a / 2 - 1)), ne_eqb 0 (suc (count_trailing_zeros k (a / 2))) other)
rest_bits (suc k) a (suc u) h m = at (λ p. rest_bits k (a / 2) u p (half_below k a m)) (parity a)
  where
    at : (0 < a / 2 → has_bit (a / 2) u ≡ (has_bit (bit_and (a / 2) (a / 2 - 1)) u || eqb u (count_trailing_zeros k (a / 2))))
        → (a % 2 ≡ 1) ⊎ (a % 2 ≡ 0) → has_bit a (suc u) ≡ (has_bit (bit_and a (a - 1)) (suc u) || eqb (suc u) (count_trailing_zeros (suc k) a))
    at half (inl e) =
        let other : suc u ≡ 0 → ⊥ = λ x. omega arith in
        bit_high a u ∙ rw (least_odd k a e, rest_odd k a e, twice_high (a / 2) u, ne_eqb (suc u) 0 other) (sym (or_false (has_bit (a / 2) u)))
    at half (inr e) =
        let some : 0 < a / 2 = omega arith in
        bit_high a u ∙ half some ∙ rw (least_even k a e, rest_even k a e h, twice_high (bit_and (a / 2) (a / 2 - 1)) u, same_next u (count_trailing_zeros k (a / 2)))

-- what is left of a set once its least number is gone
pub rest_scopes : (a u : ℕ) → 0 < a → a < 18446744073709551616 → has_scope a u ≡ (has_scope (bit_and a (a - 1)) u || eqb u (count_trailing_zeros 64 a))
rest_scopes a u h m = at (Two (ltb u 64))
  where
    at : (ltb u 64 ≡ true) ⊎ (ltb u 64 ≡ false) → has_scope a u ≡ (has_scope (bit_and a (a - 1)) u || eqb u (count_trailing_zeros 64 a))
    at (inl e) =
        let below : u < 64 = ltb-true u 64 e in
        scope_in a u below ∙ rest_bits 64 a u h m ∙ sym (rw (scope_in (bit_and a (a - 1)) u below))
    at (inr e) =
        let past : 64 ≤ u = ltb-false u 64 e in
        let least = least_below 64 a h m in
        let other : u ≡ count_trailing_zeros 64 a → ⊥ = λ x. omega arith in
        scope_past a u past ∙ sym (rw (scope_past (bit_and a (a - 1)) u past) (ne_eqb u (count_trailing_zeros 64 a) other))

-- Of the numbers that are asked for, each is left, or what is wanted holds of it.
abbrev pub Passed : (ℕ → Bool) → (ℕ → Type 0) → ℕ → Type 0
Passed asked want left = (k : ℕ) → asked k ≡ true → (has_scope left k ≡ true) ⊎ want k

module _ (asked : ℕ → Bool) (want : ℕ → Type 0) where
  -- one more passed
  pub passed_more : (left rest first : ℕ) → ((u : ℕ) → has_scope left u ≡ (has_scope rest u || eqb u first)) → want first
      → Passed asked want left → Passed asked want rest
  passed_more left rest first law here before k h = ⊎_elim (λ e. at (Two (has_scope rest k)) (sym (law k) ∙ e)) inr (before k h)
    where
      at : (has_scope rest k ≡ true) ⊎ (has_scope rest k ≡ false) → (has_scope rest k || eqb k first) ≡ true → (has_scope rest k ≡ true) ⊎ want k
      at (inl e) m = inl e
      at (inr e) m = inr (rw (eqb-true k first (rw e at m)) here)

  -- none left
  pub passed_all : (left : ℕ) → left ≡ 0 → Passed asked want left → (k : ℕ) → asked k ≡ true → want k
  passed_all left none before k h =
      ⊎_elim (λ e. absurd (false≢true (sym (scopes_none k) ∙ rw none at e))) (λ w. w) (before k h)

-- at first all are left
pub passed_states : (set : ℕ) (want : ℕ → Type 0) → Passed (has_state set) want set
passed_states set want k h =
    let below : k < 16 = state_below set k h in
    inl (scope_in set k (omega arith) ∙ sym (state_in set k below) ∙ h)

pub passed_scopes : (set : ℕ) (want : ℕ → Type 0) → Passed (has_scope set) want set
passed_scopes set want k h = inl h

-- what is wanted may be more
pub passed_for : (asked : ℕ → Bool) (less more : ℕ → Type 0) (left : ℕ) → ((k : ℕ) → less k → more k) → Passed asked less left → Passed asked more left
passed_for asked less more left on before k h = ⊎_elim inl (λ w. inr (on k w)) (before k h)
