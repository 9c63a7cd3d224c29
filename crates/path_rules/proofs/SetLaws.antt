-- Laws of sets as bits. Assumes nothing.
use Prim.Native.Nat.{ℕ, zero, suc, ◌+◌, ◌*◌, ◌/◌, ◌%◌, ◌^◌, ◌≤◌, ◌<◌}
use mathlib.Core.Path.{◌≡◌, refl, sym, ap, ◌∙◌}
use mathlib.Core.Bool.{Bool, true, false, not, ◌&&◌, ◌||◌, false≢true}
use mathlib.Core.Logic.{◌⊎◌, inl, inr, ⊎_elim}
use native.Mathlib.Omega.{arith}
use native.Mathlib.Nat.{mod-lt, zero-div, div-one, pow-suc, one-mul}
use lib.Bits.{bit_and, bit_or, or_shr, or_mod, and_shr, and_mod, and_zero_l}
use lib.Dec.{eqb}
use lib.Pow.{shr-shr, shl_exact, shl-shr}
use borrow.Author.Tests.{eqb-true, eqb-false, eq-eqb, ne_eqb}
use Rattle.scope_graph.proofs.Lists.{Two, and_left, and_right, and_both, or_cases, or_left, or_right, true_false}
use Rattle.path_rules.specs.Sets.{has, only_if, gather, meets}

-- what the code answers
pub only_so : (b : Bool) (set : ℕ) → b ≡ true → set ≡ only_if b set
unfolding only_if
only_so true set e = refl
only_so false set e = absurd (false≢true e)

pub only_not : (b : Bool) (set : ℕ) → b ≡ false → 0 ≡ only_if b set
unfolding only_if
only_not true set e = absurd (false≢true (sym e))
only_not false set e = refl

pub one_bit : (x : ℕ) → x < 11 → 1 * 2 ^ x % 18446744073709551616 ≡ 2 ^ x
one_bit x h = shl_exact {a = 1} 1 x 64 (omega arith) (omega arith) ∙ one-mul (2 ^ x)

-- bit by bit
has_suc : (set x : ℕ) → has set (suc x) ≡ has (set / 2) x
unfolding has
has_suc set x =
    let e : suc x ≡ 1 + x = omega arith in
    ap (λ (v : ℕ). eqb (v % 2) 1) (ap (λ (k : ℕ). set / 2 ^ k) e ∙ sym (shr-shr set 1 x))

has_zero : (set : ℕ) → has set 0 ≡ eqb (set % 2) 1
unfolding has
has_zero set = ap (λ (v : ℕ). eqb (v % 2) 1) (div-one set)

pub has_none : (x : ℕ) → has 0 x ≡ false
unfolding has
has_none x = ap (λ (v : ℕ). eqb (v % 2) 1) (zero-div (2 ^ x))

or_digit : (x y : ℕ) → x < 2 → y < 2 → eqb (bit_or x y) 1 ≡ (eqb x 1 || eqb y 1)
or_digit zero y h k = refl
or_digit (suc zero) zero h k = refl
or_digit (suc zero) (suc zero) h k = refl
or_digit (suc zero) (suc (suc y)) h k = absurd (omega arith)
or_digit (suc (suc x)) y h k = absurd (omega arith)

and_digit : (x y : ℕ) → x < 2 → y < 2 → eqb (bit_and x y) 1 ≡ (eqb x 1 && eqb y 1)
and_digit zero y h k = ap (λ (v : ℕ). eqb v 1) (and_zero_l y)
and_digit (suc zero) zero h k = refl
and_digit (suc zero) (suc zero) h k = refl
and_digit (suc zero) (suc (suc y)) h k = absurd (omega arith)
and_digit (suc (suc x)) y h k = absurd (omega arith)

pub has_or : (a b x : ℕ) → has (bit_or a b) x ≡ (has a x || has b x)
unfolding has
has_or a b x =
    ap (λ (v : ℕ). eqb v 1) (ap (λ (v : ℕ). v % 2) (or_shr a b x) ∙ or_mod (a / 2 ^ x) (b / 2 ^ x) 1)
    ∙ or_digit (a / 2 ^ x % 2) (b / 2 ^ x % 2) (mod-lt (a / 2 ^ x) (omega arith)) (mod-lt (b / 2 ^ x) (omega arith))

pub has_and : (a b x : ℕ) → has (bit_and a b) x ≡ (has a x && has b x)
unfolding has
has_and a b x =
    ap (λ (v : ℕ). eqb v 1) (ap (λ (v : ℕ). v % 2) (and_shr a b x) ∙ and_mod (a / 2 ^ x) (b / 2 ^ x) 1)
    ∙ and_digit (a / 2 ^ x % 2) (b / 2 ^ x % 2) (mod-lt (a / 2 ^ x) (omega arith)) (mod-lt (b / 2 ^ x) (omega arith))

pub has_only : (b : Bool) (set x : ℕ) → has (only_if b set) x ≡ (b && has set x)
unfolding only_if
has_only true set x = refl
has_only false set x = has_none x

-- the set of one number
half_double : (n : ℕ) → 2 ^ suc n / 2 ≡ 2 ^ n
half_double n = ap (λ (v : ℕ). v / 2) (pow-suc 2 n) ∙ shl-shr (2 ^ n) 1

even_double : (n : ℕ) → 2 ^ suc n % 2 ≡ 0
even_double n = ap (λ (v : ℕ). v % 2) (pow-suc 2 n) ∙ omega arith

pub has_one : (n x : ℕ) → has (2 ^ n) x ≡ eqb x n
has_one zero zero = has_zero 1
has_one zero (suc x) = has_suc 1 x ∙ has_none x ∙ sym (ne_eqb (suc x) 0 (λ e. omega arith))
has_one (suc n) zero = has_zero (2 ^ suc n) ∙ rw (even_double n) (sym (ne_eqb 0 (suc n) (λ e. omega arith)))
has_one (suc n) (suc x) = has_suc (2 ^ suc n) x ∙ ap (λ (v : ℕ). has v x) (half_double n) ∙ has_one n x ∙ same (Two (eqb x n))
  where
    same : (eqb x n ≡ true) ⊎ (eqb x n ≡ false) → eqb x n ≡ eqb (suc x) (suc n)
    same (inl e) = e ∙ sym (eq-eqb (suc x) (suc n) (ap suc (eqb-true x n e)))
    same (inr e) = e ∙ sym (ne_eqb (suc x) (suc n) (λ z. eqb-false x n e (omega arith)))

-- a test that holds of some number below n
pub some_below : (ℕ → Bool) → ℕ → Bool
some_below f zero = false
some_below f (suc n) = some_below f n || f n

pub some_intro : (f : ℕ → Bool) (n x : ℕ) → x < n → f x ≡ true → some_below f n ≡ true
unfolding some_below
some_intro f zero x b h = absurd (omega arith)
some_intro f (suc n) x b h = at (Two (eqb x n)) (λ k. some_intro f n x k h)
  where
    at : (eqb x n ≡ true) ⊎ (eqb x n ≡ false) → (x < n → some_below f n ≡ true) → (some_below f n || f n) ≡ true
    at (inl e) ih = or_right (some_below f n) _ (rw (eqb-true x n e) at h)
    at (inr e) ih = let z = eqb-false x n e in or_left _ _ (ih (omega (arith, b, z)))

pub some_elim : (f : ℕ → Bool) (n : ℕ) → some_below f n ≡ true → (x : ℕ) × (x < n) × (f x ≡ true)
unfolding some_below
some_elim f zero h = absurd (false≢true h)
some_elim f (suc n) h =
    ⊎_elim (λ z. let r = some_elim f n z in (r.0, (let b = r.1 in omega arith), r.2)) (λ z. (n, omega arith, z)) (or_cases (some_below f n) _ h)

pub has_gather : (f : ℕ → ℕ) (n x : ℕ) → has (gather f n) x ≡ some_below (λ p. has (f p) x) n
unfolding gather some_below
has_gather f zero x = has_none x
has_gather f (suc n) x = has_or (gather f n) (f n) x ∙ ap (λ (b : Bool). b || has (f n) x) (has_gather f n x)

-- a set that is not empty has a number
some_bit : (fuel set : ℕ) → set ≤ fuel → (set ≡ 0 → ⊥) → (x : ℕ) × (has set x ≡ true)
some_bit zero set b h = absurd (h (omega arith))
some_bit (suc fuel) set b h = at (Two (eqb (set % 2) 1)) (some_bit fuel (set / 2))
  where
    half : eqb (set % 2) 1 ≡ false → set / 2 ≡ 0 → ⊥
    half e z = let o = eqb-false (set % 2) 1 e in h (omega (arith, o, z))

    at : (eqb (set % 2) 1 ≡ true) ⊎ (eqb (set % 2) 1 ≡ false) → (set / 2 ≤ fuel → (set / 2 ≡ 0 → ⊥) → (x : ℕ) × (has (set / 2) x ≡ true))
        → (x : ℕ) × (has set x ≡ true)
    at (inl e) ih = (0, has_zero set ∙ e)
    at (inr e) ih = let r = ih (omega arith) (half e) in (suc r.0, has_suc set r.0 ∙ r.1)

-- two sets meet exactly if a number is in both
pub meets_elim : (a b : ℕ) → meets a b ≡ true → (x : ℕ) × (has a x ≡ true) × (has b x ≡ true)
unfolding meets
meets_elim a b h =
    let r = some_bit (bit_and a b) (bit_and a b) (omega arith) (λ e. false≢true (sym (ap not (eq-eqb (bit_and a b) 0 e)) ∙ h)) in
    let t = sym (has_and a b r.0) ∙ r.1 in
    (r.0, and_left _ _ t, and_right (has a r.0) _ t)

pub meets_intro : (a b x : ℕ) → has a x ≡ true → has b x ≡ true → meets a b ≡ true
unfolding meets
meets_intro a b x h k = at (Two (eqb (bit_and a b) 0))
  where
    at : (eqb (bit_and a b) 0 ≡ true) ⊎ (eqb (bit_and a b) 0 ≡ false) → not (eqb (bit_and a b) 0) ≡ true
    at (inl e) =
        absurd (true_false (has_and a b x ∙ and_both _ _ h k) (ap (λ (v : ℕ). has v x) (eqb-true (bit_and a b) 0 e) ∙ has_none x))
    at (inr e) = ap not e

pub meets_none : (a b : ℕ) → ((x : ℕ) → has a x ≡ true → has b x ≡ true → ⊥) → meets a b ≡ false
meets_none a b h = at (Two (meets a b))
  where
    at : (meets a b ≡ true) ⊎ (meets a b ≡ false) → meets a b ≡ false
    at (inl e) = let r = meets_elim a b e in absurd (h r.0 r.1 r.2)
    at (inr e) = e

-- a set that is gathered, turn by turn
pub gather_none : (f : ℕ → ℕ) → 0 ≡ gather f 0
unfolding gather
gather_none f = refl

pub gather_next : (f : ℕ → ℕ) (n out v : ℕ) → out ≡ gather f n → v ≡ f n → bit_or out v ≡ gather f (n + 1)
unfolding gather
gather_next f n out v e k = let s : n + 1 ≡ suc n = omega arith in rw (s, e, k)
