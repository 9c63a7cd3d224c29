-- Expressions over label numbers and the words of their language (02, K6), without any table.
-- Assumes nothing: these are definitions.
use Rattle.std.specs.Prelude.{ℕ, ◌+◌, ◌≡◌, ◌⊎◌, List, [], ◌∷◌, ◌++◌}

-- a label by its number; one after the other; one or the other; any number of times
pub data Expr : Type 0 where
  letter : ℕ → Expr
  seq alt : Expr → Expr → Expr
  star : Expr → Expr

-- how many label letters an expression has
unfoldable pub size : Expr → ℕ
size (letter l) = 1
size (seq a b) = size a + size b
size (alt a b) = size a + size b
size (star a) = size a

-- words one after the other
abbrev pub joined : List (List ℕ) → List ℕ
joined [] = []
joined (w ∷ ws) = w ++ joined ws

abbrev pub Each : (List ℕ → Type 0) → List (List ℕ) → Type 0
Each P [] = Unit {0}
Each P (w ∷ ws) = P w × Each P ws

-- the word is one of the expression's language
abbrev pub In : Expr → List ℕ → Type 0
In (letter l) w = w ≡ l ∷ []
In (seq a b) w = (u : List ℕ) × (v : List ℕ) × (w ≡ u ++ v) × In a u × In b v
In (alt a b) w = In a w ⊎ In b w
In (star a) w = (ws : List (List ℕ)) × (w ≡ joined ws) × Each (In a) ws
