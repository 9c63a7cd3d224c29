-- What the share is: the value of specs/Share's theorem, and the three ways in which the code comes
-- to it. Assumes nothing.
use Prim.Native.Nat.{ℕ, zero, suc, ◌+◌, ◌*◌, ◌/◌, ◌%◌, ◌<◌, ◌≤◌}
use mathlib.Core.Path.{◌≡◌, refl}
use mathlib.Core.Bool.{Bool, true, false}
use mathlib.Core.Logic.{◌⊎◌, inl, inr}
use native.Mathlib.Omega.{arith}
use native.Mathlib.Nat.{div-add-mod, div-le_self, mod-lt, mul-le-mul_left, eq-or-lt_of_le}
use lib.Dec.{ltb, eqb, leb}
use borrow.Author.Tests.{ltb-true, ltb-false, leb-true, leb-false, eqb-true, eqb-false, lt-ltb, le-ltb, eq-eqb, ne_eqb}
use Rattle.share.specs.Share.{rounded, nearest, share, IsShare, ShareNearest}

-- the three ways, by twice the rest and n
module _ (one n : ℕ) where
  pub past_half : n < 2 * (one * 100 % n) → one * 100 / n + 1 ≡ share one n
  unfolding share nearest rounded
  past_half h = rw (lt-ltb n (2 * (one * 100 % n)) h, rounded)

  pub at_half : 2 * (one * 100 % n) ≡ n → one * 100 / n + one * 100 / n % 2 ≡ share one n
  unfolding share nearest rounded
  at_half e = rw (le-ltb n (2 * (one * 100 % n)) (omega arith), eq-eqb (2 * (one * 100 % n)) n e, rounded)

  pub before_half : 2 * (one * 100 % n) < n → one * 100 / n ≡ share one n
  unfolding share nearest rounded
  before_half h = rw (le-ltb n (2 * (one * 100 % n)) (omega arith), ne_eqb (2 * (one * 100 % n)) n (λ e. omega arith), rounded)

module _ (n d r : ℕ) where
  rounded_small : rounded n d r ≤ d + 1
  unfolding rounded
  rounded_small = by (ltb n (2 * r)) (eqb (2 * r) n)
    where
      by : (a b : Bool) → elim a [ true ↦ d + 1 | false ↦ elim b [ true ↦ d + d % 2 | false ↦ d ] ] ≤ d + 1
      by true b = omega arith
      by false true = omega arith
      by false false = omega arith

-- enough for its length
pub share_small : (one n : ℕ) → share one n ≤ one * 100 + 1
unfolding share nearest
share_small one n =
    let h = rounded_small n (one * 100 / n) (one * 100 % n) in
    let k = div-le_self (one * 100) n in
    omega arith

module _ (one n d r : ℕ) (whole : n * d + r ≡ one * 100) (rest : r < n) where
  even_one : 2 * r ≡ n → (odd : ℕ) → d % 2 ≡ odd → IsShare one n (d + odd)
  even_one e zero k = omega arith
  even_one e (suc zero) k = omega arith
  even_one e (suc (suc m)) k = absurd (omega arith)

  is_rounded : IsShare one n (rounded n d r)
  unfolding rounded
  is_rounded = by (ltb n (2 * r)) refl (eqb (2 * r) n) refl
    where
      by : (a : Bool) → ltb n (2 * r) ≡ a → (b : Bool) → eqb (2 * r) n ≡ b
          → IsShare one n (elim a [ true ↦ d + 1 | false ↦ elim b [ true ↦ d + d % 2 | false ↦ d ] ])
      by true e b f = let h = ltb-true n (2 * r) e in omega arith
      by false e true f = even_one (eqb-true (2 * r) n f) (d % 2) refl
      by false e false f = let h = ltb-false n (2 * r) e in let k = eqb-false (2 * r) n f in omega arith

module _ (one n : ℕ) (some : 0 < n) where
  -- of two such numbers the lesser lies at the half below and the greater at the half above; so
  -- they are neighbours and both even
  apart : (s t : ℕ) → IsShare one n s → IsShare one n t → s < t → ⊥
  apart s t a b h = by (eq-or-lt_of_le h)
    where
      by : (suc s ≡ t) ⊎ (suc s < t) → ⊥
      by (inl e) =
          let k = mul-le-mul_left n h in
          let x = a.even_if_below (omega arith) in
          let y = b.even_if_above (omega arith) in
          omega arith
      by (inr l) = let k = mul-le-mul_left n l in omega arith

  no_other : (s t : ℕ) → IsShare one n s → IsShare one n t → s ≡ t
  no_other s t a b = by (ltb s t) refl (ltb t s) refl
    where
      by : (x : Bool) → ltb s t ≡ x → (y : Bool) → ltb t s ≡ y → s ≡ t
      by true e y f = absurd (apart s t a b (ltb-true s t e))
      by false e true f = absurd (apart t s b a (ltb-true t s f))
      by false e false f = let h = ltb-false s t e in let k = ltb-false t s f in omega arith

  at_most : (s : ℕ) → IsShare one n s → one ≤ n → s ≤ 100
  at_most s a h = by (leb s 100) refl
    where
      by : (x : Bool) → leb s 100 ≡ x → s ≤ 100
      by true e = leb-true s 100 e
      by false e = let k = mul-le-mul_left n (leb-false s 100 e) in absurd (omega arith)

pub share_nearest : ShareNearest
unfolding share nearest
share_nearest one n h =
    let is = is_rounded one n (one * 100 / n) (one * 100 % n) (div-add-mod (one * 100) n) (mod-lt (one * 100) h) in
    record { is_share = is; at_most = at_most one n h (share one n) is; no_other = λ s a. no_other one n h s (share one n) a is }

-- document 02's two figures, K1
pub one_of_eight : share 1 8 ≡ 12
unfolding share nearest rounded
one_of_eight = refl

pub three_of_eight : share 3 8 ≡ 38
unfolding share nearest rounded
three_of_eight = refl
