-- Sets of small numbers as the bits of a number: positions of an expression's letters, and the
-- word's end. Assumes nothing: these are definitions.
use Rattle.std.specs.Prelude.{ℕ, zero, suc, ◌/◌, ◌%◌, ◌^◌, Bool, true, false, not, eqb}
use Rattle.std.specs.Int.Bits.{bit_and, bit_or}

-- is x in the set?
unfoldable pub has : ℕ → ℕ → Bool
has set x = eqb (set / 2 ^ x % 2) 1

-- the set if so, else the empty one
unfoldable pub only_if : Bool → ℕ → ℕ
only_if true set = set
only_if false set = 0

-- all sets f 0, f 1, .. up to n, without f n, as one
unfoldable pub gather : (ℕ → ℕ) → ℕ → ℕ
gather f zero = 0
gather f (suc n) = bit_or (gather f n) (f n)

-- have two sets something in common?
unfoldable pub meets : ℕ → ℕ → Bool
meets a b = not (eqb (bit_and a b) 0)
