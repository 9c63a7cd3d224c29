-- The measure of the walks' two functions: pairs of numbers. Assumes nothing.
use mathlib.Core.Path.{◌≡◌}
use mathlib.Core.List.{List, [], ◌∷◌}
use Prim.Native.Nat.{ℕ, zero, suc, ◌+◌, ◌-◌, ◌*◌, ◌^◌, ◌≤◌, ◌<◌}
use native.Mathlib.Nat.{mul-le-mul_right, suc-mul}
use native.Mathlib.Omega.{arith}
use lib.ListN.{get_or}
use Rattle.block.specs.Layout.{FIRST}
use Rattle.block.specs.Block.{first_edge}

-- a measure on pairs: shut outside, so that no `omega` there meets its numbers
pub lex : ℕ → ℕ → ℕ
lex a b = a * 2 ^ 64 + b

pub lex_fst : (a b : ℕ) {t : ℕ} → lex a b ≡ t → (a' b' : ℕ) → a' < a → b' < 2 ^ 64 → lex a' b' < t
unfolding lex
lex_fst a b e a' b' h k = omega arith

pub lex_snd : (a b : ℕ) {t : ℕ} → lex a b ≡ t → (b' : ℕ) → b' < b → lex a b' < t
unfolding lex
lex_snd a b e b' h = omega arith

-- more than any cell of the list
pub over : List ℕ → ℕ
over [] = 1
over (a ∷ l) = a + over l

pub over_cell : (l : List ℕ) (i : ℕ) → get_or l i 0 < over l
unfolding over
over_cell [] i = omega arith
over_cell (a ∷ l) zero = omega (arith, over_cell l 0)
over_cell (a ∷ l) (suc i) = omega (arith, over_cell l i)

pub over_edges : (block : List ℕ) (s p : ℕ) → first_edge block s - p < over block
unfolding first_edge
over_edges block s p = omega (arith, over_cell block (FIRST + s))

-- the same measure for second numbers below w
pub lex_by : ℕ → ℕ → ℕ → ℕ
lex_by w a b = a * w + b

pub lex_by_fst : (w a b : ℕ) {t : ℕ} → lex_by w a b ≡ t → (a' b' : ℕ) → a' < a → b' < w → lex_by w a' b' < t
unfolding lex_by
lex_by_fst w a b e a' b' h k =
    let more : suc a' * w ≤ a * w = mul-le-mul_right w h in
    let one : suc a' * w ≡ a' * w + w = suc-mul a' w in
    omega arith

pub lex_by_snd : (w a b : ℕ) {t : ℕ} → lex_by w a b ≡ t → (b' : ℕ) → b' < b → lex_by w a b' < t
unfolding lex_by
lex_by_snd w a b e b' h = omega arith
