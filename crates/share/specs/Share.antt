-- The share of queries found one, in whole per cent (01, "The listing", as 02, K1 has it): how it
-- is worked out, and what it is. The theorem's value is in proofs/Nearest.antt. Assumes nothing.
use Rattle.std.specs.Prelude.{ℕ, ◌+◌, ◌*◌, ◌/◌, ◌%◌, ◌<◌, ◌≤◌, ◌≡◌, true, false, ltb, eqb}

-- a quotient by n and its remainder, as one whole number: one more past the half of n, the even one
-- of the two at the half
unfoldable pub rounded : ℕ → ℕ → ℕ → ℕ
rounded n quotient rest =
    elim (ltb n (2 * rest)) [ true ↦ quotient + 1 | false ↦ elim (eqb (2 * rest) n) [ true ↦ quotient + quotient % 2 | false ↦ quotient ] ]

-- a divided by n, to the nearest whole number
unfoldable pub nearest : ℕ → ℕ → ℕ
nearest a n = rounded n (a / n) (a % n)

-- of n queries, this many are found one
unfoldable pub share : ℕ → ℕ → ℕ
share one n = nearest (one * 100) n

-- s is the share, said without a division: s and 100 * one / n, both taken 2 * n times, lie at most
-- n apart, which is half a per cent; where they lie just n apart, a neighbour of s is as near, and
-- s is the even one
pub record IsShare (one n s : ℕ) : Type 0 where
  pub not_below : 200 * one ≤ 2 * n * s + n
  pub not_above : 2 * n * s ≤ 200 * one + n
  pub even_if_below : 2 * n * s + n ≡ 200 * one → s % 2 ≡ 0
  pub even_if_above : 2 * n * s ≡ 200 * one + n → s % 2 ≡ 0

-- where there are queries, the share is such a number, at most 100, and no other number is
pub record ShareIs (one n : ℕ) : Type 0 where
  pub is_share : IsShare one n (share one n)
  pub at_most : one ≤ n → share one n ≤ 100
  pub no_other : (s : ℕ) → IsShare one n s → s ≡ share one n

abbrev pub ShareNearest : Type 0
ShareNearest = (one n : ℕ) → 0 < n → ShareIs one n
