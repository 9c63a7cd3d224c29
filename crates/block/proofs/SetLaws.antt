-- Laws of sets as bits: which numbers the empty set, all, one number, a union, a difference and an
-- intersection hold. Each is shown of bits, then for the numbers below a bound. Assumes nothing.
use mathlib.Core.Path.{◌≡◌, refl, sym, ap, ◌∙◌}
use mathlib.Core.Logic.{◌⊎◌, inl, inr}
use mathlib.Core.Bool.{Bool, true, false, not, ◌&&◌, ◌||◌, and-false, false≢true}
use Prim.Native.Nat.{ℕ, zero, suc, ◌+◌, ◌*◌, ◌/◌, ◌%◌, ◌^◌, ◌≤◌, ◌<◌}
use native.Mathlib.Nat.{mod-lt}
use native.Mathlib.Omega.{arith}
use borrow.Author.Tests.{lt-ltb, le-ltb, ltb-true, ltb-false, eqb-true, eqb-false, ne_eqb}
use lib.Bits.{bit_and, bit_or, bit_xor, and_lt, and_shr, and_mod, or_shr, or_mod, xor_shr, xor_mod}
use lib.Dec.{eqb, ltb}
use lib.Pow.{shr_le, shr_lt, shl_exact, split, pow_pos}
use Rattle.scope_graph.proofs.Lists.{Two, and_left, and_right, and_both}
use Rattle.block.specs.Sets.{has_bit, has_scope, has_state, has_label, ALL_LABELS, places_of}

-- an operation on bits that goes digit by digit, by its four answers
module _
    (op : ℕ → ℕ → ℕ)
    (f : Bool → Bool → Bool)
    (shr : (a c k : ℕ) → op a c / 2 ^ k ≡ op (a / 2 ^ k) (c / 2 ^ k))
    (low : (a c k : ℕ) → op a c % 2 ^ k ≡ op (a % 2 ^ k) (c % 2 ^ k))
    (nn : eqb (op 0 0) 1 ≡ f false false)
    (ny : eqb (op 0 1) 1 ≡ f false true)
    (yn : eqb (op 1 0) 1 ≡ f true false)
    (yy : eqb (op 1 1) 1 ≡ f true true)
  where
    digit_by : (x y : ℕ) → x < 2 → y < 2 → eqb (op x y) 1 ≡ f (eqb x 1) (eqb y 1)
    digit_by zero zero h k = nn
    digit_by zero (suc zero) h k = ny
    digit_by zero (suc (suc y)) h k = absurd (omega arith)
    digit_by (suc zero) zero h k = yn
    digit_by (suc zero) (suc zero) h k = yy
    digit_by (suc zero) (suc (suc y)) h k = absurd (omega arith)
    digit_by (suc (suc x)) y h k = absurd (omega arith)

    bits_by : (a c u : ℕ) → has_bit (op a c) u ≡ f (has_bit a u) (has_bit c u)
    unfolding has_bit
    bits_by a c u =
        ap (λ (x : ℕ). eqb x 1) (ap (λ (x : ℕ). x % 2) (shr a c u) ∙ low (a / 2 ^ u) (c / 2 ^ u) 1)
        ∙ digit_by (a / 2 ^ u % 2) (c / 2 ^ u % 2) (mod-lt (a / 2 ^ u) (omega arith)) (mod-lt (c / 2 ^ u) (omega arith))

-- a union holds what one of the two holds, an intersection what both hold
pub bits_or : (a c u : ℕ) → has_bit (bit_or a c) u ≡ (has_bit a u || has_bit c u)
bits_or = bits_by bit_or (λ x y. x || y) or_shr or_mod refl refl refl refl

pub bits_and : (a c u : ℕ) → has_bit (bit_and a c) u ≡ (has_bit a u && has_bit c u)
bits_and = bits_by bit_and (λ x y. x && y) and_shr and_mod refl refl refl refl

-- a difference: what the first holds and the second does not
differs : Bool → Bool → Bool
differs true y = not y
differs false y = y

bits_xor : (a c u : ℕ) → has_bit (bit_xor a c) u ≡ differs (has_bit a u) (has_bit c u)
unfolding differs
bits_xor = bits_by bit_xor differs xor_shr xor_mod refl refl refl refl

less_is : (x y : Bool) → differs x (x && y) ≡ (x && not y)
unfolding differs
less_is true y = refl
less_is false y = refl

pub bits_less : (a c u : ℕ) → has_bit (bit_xor a (bit_and a c)) u ≡ (has_bit a u && not (has_bit c u))
bits_less a c u =
    bits_xor a (bit_and a c) u ∙ ap (λ (b : Bool). differs (has_bit a u) b) (bits_and a c u)
    ∙ less_is (has_bit a u) (has_bit c u)

-- the empty set
pub bits_none : (u : ℕ) → has_bit 0 u ≡ false
unfolding has_bit
bits_none u = let none : 0 / 2 ^ u ≡ 0 = omega (arith, shr_le 0 u) in rw none

-- sets that have nothing in common
pub bits_apart : (a c u : ℕ) → bit_and a c ≡ 0 → has_bit a u ≡ true → has_bit c u ≡ false
bits_apart a c u e h =
    let both : (has_bit a u && has_bit c u) ≡ false = sym (bits_and a c u) ∙ ap (λ (x : ℕ). has_bit x u) e ∙ bits_none u in
    rw h at both

-- a test that holds of each number below n
up_to : (ℕ → Bool) → ℕ → Bool
up_to f zero = true
up_to f (suc n) = f n && up_to f n

up_all : (f : ℕ → Bool) (n : ℕ) → up_to f n ≡ true → (k : ℕ) → k < n → f k ≡ true
unfolding up_to
up_all f zero e k h = absurd (omega arith)
up_all f (suc n) e k h = at (up_all f n (and_right (f n) (up_to f n) e)) (Two (eqb k n))
  where
    at : ((j : ℕ) → j < n → f j ≡ true) → (eqb k n ≡ true) ⊎ (eqb k n ≡ false) → f k ≡ true
    at below (inl x) = rw (eqb-true k n x) (and_left (f n) (up_to f n) e)
    at below (inr x) = let other : k ≡ n → ⊥ = eqb-false k n x in below k (omega arith)

alike : Bool → Bool → Bool
alike true y = y
alike false y = not y

alike_same : (x y : Bool) → alike x y ≡ true → x ≡ y
unfolding alike
alike_same true y h = sym h
alike_same false false h = refl
alike_same false true h = h

-- one number, computed for all below 64
pub bits_one : (k u : ℕ) → k < 64 → u < 64 → has_bit (2 ^ k) u ≡ eqb u k
unfolding has_bit up_to alike
bits_one k u h below =
    alike_same (eqb (2 ^ k / 2 ^ u % 2) 1) (eqb u k)
    (up_all (λ j. alike (eqb (2 ^ k / 2 ^ j % 2) 1) (eqb j k)) 64
    (up_all (λ i. up_to (λ j. alike (eqb (2 ^ i / 2 ^ j % 2) 1) (eqb j i)) 64) 64 refl k h) u below)

-- the number as the machine shifts it
pub one_shifted : (k : ℕ) → k < 64 → 1 * 2 ^ k % 18446744073709551616 ≡ 2 ^ k
one_shifted k h = shl_exact 1 k 64 (omega arith) (omega arith) ∙ omega arith

-- all numbers below 64, below 16, and below 8
pub bits_all : (u : ℕ) → u < 64 → has_bit 18446744073709551615 u ≡ true
unfolding has_bit up_to
bits_all u h = up_all (λ k. eqb (18446744073709551615 / 2 ^ k % 2) 1) 64 refl u h

bits_states : (u : ℕ) → u < 16 → has_bit 65535 u ≡ true
unfolding has_bit up_to
bits_states u h = up_all (λ k. eqb (65535 / 2 ^ k % 2) 1) 16 refl u h

bits_labels : (u : ℕ) → u < 8 → has_bit ALL_LABELS u ≡ true
unfolding has_bit up_to
bits_labels u h = up_all (λ k. eqb (ALL_LABELS / 2 ^ k % 2) 1) 8 refl u h

-- a set that is not empty holds a number
bit_top : (n k : ℕ) → n < 2 ^ suc k → has_bit n k ≡ false → n < 2 ^ k
unfolding has_bit
bit_top n k h e =
    let next : suc k ≡ 1 + k = omega arith in
    let few : n / 2 ^ k < 2 = shr_lt 1 k (rw next at h) in
    let even : n / 2 ^ k % 2 ≡ 1 → ⊥ = eqb-false (n / 2 ^ k % 2) 1 e in
    let none : n / 2 ^ k ≡ 0 = omega arith in
    let rest : n % 2 ^ k < 2 ^ k = mod-lt n (pow_pos k) in
    let whole : 0 * 2 ^ k + n % 2 ^ k ≡ n = rw none at (split n k) in
    omega arith

pub bits_some : (k n : ℕ) → n < 2 ^ k → (n ≡ 0 → ⊥) → (e : ℕ) × (e < k) × (has_bit n e ≡ true)
bits_some zero n h some = absurd (some (omega arith))
bits_some (suc k) n h some = at (λ m. bits_some k n m some) (Two (has_bit n k))
  where
    at : (n < 2 ^ k → (e : ℕ) × (e < k) × (has_bit n e ≡ true)) → (has_bit n k ≡ true) ⊎ (has_bit n k ≡ false)
        → (e : ℕ) × (e < suc k) × (has_bit n e ≡ true)
    at below (inl e) = (k, omega arith, e)
    at below (inr e) = let r = below (bit_top n k h e) in (r.0, omega (arith, r.1), r.2)

-- two sets of numbers below k that have something in common
pub bits_common : (k a c : ℕ) → a < 2 ^ k → c < 2 ^ k → (bit_and a c ≡ 0 → ⊥)
    → (e : ℕ) × (e < k) × (has_bit a e ≡ true) × (has_bit c e ≡ true)
bits_common k a c h m some =
    let r = bits_some k (bit_and a c) (and_lt k a c h m) some in
    let both : (has_bit a r.0 && has_bit c r.0) ≡ true = sym (bits_and a c r.0) ∙ r.2 in
    (r.0, r.1, and_left (has_bit a r.0) (has_bit c r.0) both, and_right (has_bit a r.0) (has_bit c r.0) both)

-- what a set holds of the numbers below a bound: scopes and states are both that
within : ℕ → ℕ → ℕ → Bool
within n set i = elim (ltb i n) [ true ↦ has_bit set i | false ↦ false ]

module _ (n : ℕ) where
  in_below : (set i : ℕ) → i < n → within n set i ≡ has_bit set i
  unfolding within
  in_below set i h = rw (lt-ltb i n h, within)

  in_past : (set i : ℕ) → n ≤ i → within n set i ≡ false
  unfolding within
  in_past set i h = rw (le-ltb i n h, within)

  in_held : (set i : ℕ) → within n set i ≡ true → i < n
  in_held set i h = at (Two (ltb i n))
    where
      at : (ltb i n ≡ true) ⊎ (ltb i n ≡ false) → i < n
      at (inl e) = ltb-true i n e
      at (inr e) = absurd (false≢true (sym (in_past set i (ltb-false i n e)) ∙ h))

  -- what holds of bits holds below the bound
  in_is : (set i : ℕ) (want : Bool) → (i < n → has_bit set i ≡ want) → (n ≤ i → want ≡ false) → within n set i ≡ want
  in_is set i want bit past = at (Two (ltb i n))
    where
      at : (ltb i n ≡ true) ⊎ (ltb i n ≡ false) → within n set i ≡ want
      at (inl e) = in_below set i (ltb-true i n e) ∙ bit (ltb-true i n e)
      at (inr e) = in_past set i (ltb-false i n e) ∙ sym (past (ltb-false i n e))

  in_none : (i : ℕ) → within n 0 i ≡ false
  in_none i = in_is 0 i false (λ h. bits_none i) (λ h. refl)

  in_or : (a c i : ℕ) → within n (bit_or a c) i ≡ (within n a i || within n c i)
  in_or a c i =
      in_is (bit_or a c) i (within n a i || within n c i)
      (λ h. bits_or a c i ∙ sym (rw (in_below a i h, in_below c i h)))
      (λ h. rw (in_past a i h, in_past c i h))

  in_less : (a c i : ℕ) → within n (bit_xor a (bit_and a c)) i ≡ (within n a i && not (within n c i))
  in_less a c i =
      in_is (bit_xor a (bit_and a c)) i (within n a i && not (within n c i))
      (λ h. bits_less a c i ∙ sym (rw (in_below a i h, in_below c i h)))
      (λ h. rw (in_past a i h))

  in_one : n ≤ 64 → (k i : ℕ) → k < n → within n (2 ^ k) i ≡ eqb i k
  in_one few k i h =
      in_is (2 ^ k) i (eqb i k) (λ m. bits_one k i (omega arith) (omega arith))
      (λ m. let other : i ≡ k → ⊥ = λ e. omega arith in ne_eqb i k other)

-- scopes
pub scope_in : (set s : ℕ) → s < 64 → has_scope set s ≡ has_bit set s
unfolding has_scope within
scope_in = in_below 64

pub scope_past : (set s : ℕ) → 64 ≤ s → has_scope set s ≡ false
unfolding has_scope within
scope_past = in_past 64

pub scope_below : (set s : ℕ) → has_scope set s ≡ true → s < 64
unfolding has_scope within
scope_below = in_held 64

pub scopes_none : (s : ℕ) → has_scope 0 s ≡ false
unfolding has_scope within
scopes_none = in_none 64

pub scopes_all : (s : ℕ) → s < 64 → has_scope 18446744073709551615 s ≡ true
scopes_all s h = scope_in 18446744073709551615 s h ∙ bits_all s h

pub scopes_or : (a c s : ℕ) → has_scope (bit_or a c) s ≡ (has_scope a s || has_scope c s)
unfolding has_scope within
scopes_or = in_or 64

pub scopes_less : (a c s : ℕ) → has_scope (bit_xor a (bit_and a c)) s ≡ (has_scope a s && not (has_scope c s))
unfolding has_scope within
scopes_less = in_less 64

pub scopes_one : (k s : ℕ) → k < 64 → has_scope (2 ^ k) s ≡ eqb s k
unfolding has_scope within
scopes_one = in_one 64 (omega arith)

-- a set without a scope, and the set of one, as the machine shifts it
pub scopes_single : (k s : ℕ) → k < 64 → has_scope (1 * 2 ^ k % 18446744073709551616) s ≡ eqb s k
scopes_single k s h = ap (λ (x : ℕ). has_scope x s) (one_shifted k h) ∙ scopes_one k s h

pub scopes_taken : (a k s : ℕ) → k < 64
    → has_scope (bit_xor a (bit_and a (1 * 2 ^ k % 18446744073709551616))) s ≡ (has_scope a s && not (eqb s k))
scopes_taken a k s h =
    scopes_less a (1 * 2 ^ k % 18446744073709551616) s ∙ ap (λ (b : Bool). has_scope a s && not b) (scopes_single k s h)

-- states
pub state_in : (set q : ℕ) → q < 16 → has_state set q ≡ has_bit set q
unfolding has_state within
state_in = in_below 16

pub state_past : (set q : ℕ) → 16 ≤ q → has_state set q ≡ false
unfolding has_state within
state_past = in_past 16

pub state_below : (set q : ℕ) → has_state set q ≡ true → q < 16
unfolding has_state within
state_below = in_held 16

pub states_none : (q : ℕ) → has_state 0 q ≡ false
unfolding has_state within
states_none = in_none 16

pub states_all : (q : ℕ) → q < 16 → has_state 65535 q ≡ true
states_all q h = state_in 65535 q h ∙ bits_states q h

pub states_or : (a c q : ℕ) → has_state (bit_or a c) q ≡ (has_state a q || has_state c q)
unfolding has_state within
states_or = in_or 16

pub states_left : (a c q : ℕ) → has_state a q ≡ true → has_state (bit_or a c) q ≡ true
states_left a c q h = states_or a c q ∙ rw h

-- a state of a union is one of the two sets'
pub states_either : (a c q : ℕ) → has_state (bit_or a c) q ≡ true → has_state a q ≡ false → has_state c q ≡ true
states_either a c q h e = rw e at (sym (states_or a c q) ∙ h)

pub states_less : (a c q : ℕ) → has_state (bit_xor a (bit_and a c)) q ≡ (has_state a q && not (has_state c q))
unfolding has_state within
states_less = in_less 16

pub states_one : (k q : ℕ) → k < 16 → has_state (2 ^ k) q ≡ eqb q k
unfolding has_state within
states_one = in_one 16 (omega arith)

-- labels: what a set of them holds, and the sets of all and of one
pub label_in_lem : (set l : ℕ) → l < 8 → has_label set l ≡ has_scope set l
unfolding has_label within
label_in_lem set l h = in_below 8 set l h ∙ sym (scope_in set l (omega arith))

pub labels_all : (l : ℕ) → l < 8 → has_label ALL_LABELS l ≡ true
unfolding has_label within
labels_all l h = in_below 8 ALL_LABELS l h ∙ bits_labels l h

pub label_lacked : (l : ℕ) → has_label ALL_LABELS l ≡ false → 8 ≤ l
label_lacked l h = at (Two (ltb l 8))
  where
    at : (ltb l 8 ≡ true) ⊎ (ltb l 8 ≡ false) → 8 ≤ l
    at (inl e) = absurd (false≢true (sym h ∙ labels_all l (ltb-true l 8 e)))
    at (inr e) = ltb-false l 8 e

pub labels_single : (set k : ℕ) → k < 8 → ((u : ℕ) → has_scope set u ≡ eqb u k) → (l : ℕ) → has_label set l ≡ eqb l k
unfolding has_label within
labels_single set k h one l =
    in_is 8 set l (eqb l k) (λ m. sym (scope_in set l (omega arith)) ∙ one l)
    (λ m. let other : l ≡ k → ⊥ = λ e. omega arith in ne_eqb l k other)

-- places of a set of scopes and a set of states
module _ (scopes states s q : ℕ) where
  pub places_in_lem : has_scope scopes s ≡ true → has_state states q ≡ true → places_of scopes states s q ≡ true
  unfolding places_of
  places_in_lem h k = and_both (has_scope scopes s) (has_state states q) h k

  pub places_scope : places_of scopes states s q ≡ true → has_scope scopes s ≡ true
  unfolding places_of
  places_scope h = and_left (has_scope scopes s) (has_state states q) h

  pub places_state : places_of scopes states s q ≡ true → has_state states q ≡ true
  unfolding places_of
  places_state h = and_right (has_scope scopes s) (has_state states q) h

  pub places_no_scope : has_scope scopes s ≡ false → places_of scopes states s q ≡ false
  unfolding places_of
  places_no_scope h = rw h

  pub places_no_state : has_state states q ≡ false → places_of scopes states s q ≡ false
  unfolding places_of
  places_no_state h = rw h (and-false (has_scope scopes s))

-- no place of no scopes
pub places_none : (states s q : ℕ) → places_of 0 states s q ≡ false
places_none states s q = places_no_scope 0 states s q (scopes_none s)
