-- Parts of a block of cells: what is written to one, what the others keep. Assumes nothing: these
-- are definitions.
use Rattle.std.specs.Prelude.{ℕ, suc, ◌+◌, ◌≤◌, ◌<◌, ◌≡◌, List, [], ◌∷◌, length, get_or, set}
use Rattle.block.specs.Layout.{HINT}

-- the block with the values from cell i on
unfoldable pub puts : List ℕ → ℕ → List ℕ → List ℕ
puts block i [] = block
puts block i (x ∷ xs) = puts (set block i x) (suc i) xs

-- nothing but the n cells from `at` on differs
pub record Only (at n : ℕ) (old new : List ℕ) : Type 0 where
  pub size : length new ≡ length old
  pub before : (j : ℕ) → j < at → get_or new j 0 ≡ get_or old j 0
  pub behind : (j : ℕ) → at + n ≤ j → get_or new j 0 ≡ get_or old j 0

-- how many cells of hints there are
abbrev pub HINTS : ℕ
HINTS = 1090

-- nothing but hints differs
abbrev pub HintsOnly : List ℕ → List ℕ → Type 0
HintsOnly old new = Only HINT HINTS old new
