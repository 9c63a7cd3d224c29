-- Which texts are expressions (02, K6), without any reader. Bytes: 40 and 41 are the round
-- brackets, 42 the star, 124 the bar. Assumes nothing: these are definitions.
use Rattle.std.specs.Prelude.{ℕ, suc, ◌≤◌, ◌<◌, ◌≡◌, Bool, true, false, ◌||◌, List, [], ◌∷◌, ◌++◌, eqb, length}
use Rattle.path_rules.specs.Expression.{Expr, letter, seq, alt, star, size}

-- how loosely a text binds: one item, items one after the other, or sides of bars
pub data Binding : Type 0 where
  item items sides : Binding

-- one of the four signs, which are no labels
unfoldable pub is_sign : ℕ → Bool
is_sign c = eqb c 40 || (eqb c 41 || (eqb c 42 || eqb c 124))

-- a label's number is its place; 8 if the byte is none of them. Only numbers below 8 are labels'
unfoldable pub place_of : ℕ → ℕ → List ℕ → ℕ
place_of i b [] = 8
place_of i b (l ∷ ls) = elim (eqb b l) [ true ↦ i | false ↦ place_of (suc i) b ls ]

-- The text is an expression, over labels whose numbers are their places. The kinds of binding say
-- what goes with what: a star belongs to one item, a bar parts whole sequences. No rule reads an
-- empty text, so neither a bracket pair nor a side of a bar is empty; `starred` makes an item of an
-- item, so stars may stand one behind the other.
pub data Reads (labels : List ℕ) : Binding → Expr → List ℕ → Type 0 where
  label : (c l : ℕ) → is_sign c ≡ false → place_of 0 c labels ≡ l → l < 8 → Reads labels item (letter l) (c ∷ [])
  starred : (e : Expr) (s t : List ℕ) → Reads labels item e s → t ≡ s ++ 42 ∷ [] → Reads labels item (star e) t
  bracketed : (e : Expr) (s t : List ℕ) → Reads labels sides e s → t ≡ 40 ∷ (s ++ 41 ∷ []) → Reads labels item e t
  single : (e : Expr) (s : List ℕ) → Reads labels item e s → Reads labels items e s
  behind : (a b : Expr) (s r t : List ℕ) → Reads labels items a s → Reads labels item b r → t ≡ s ++ r → Reads labels items (seq a b) t
  side : (e : Expr) (s : List ℕ) → Reads labels items e s → Reads labels sides e s
  barred : (a b : Expr) (s r t : List ℕ) → Reads labels sides a s → Reads labels items b r → t ≡ s ++ 124 ∷ r → Reads labels sides (alt a b) t

-- and within the limits: at most 64 bytes and ten label letters
pub record Expression (labels : List ℕ) (e : Expr) (text : List ℕ) : Type 0 where
  pub reads : Reads labels sides e text
  pub bytes : length text ≤ 64
  pub letters : size e ≤ 10
