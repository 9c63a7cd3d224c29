-- The label letters of an expression as positions, numbered from n on in the text's sequence: which
-- may come first, last, after one another; and what it means that a word leads along them to its
-- end. Assumes nothing: these are definitions.
use Prim.Native.Nat.{ℕ, ◌+◌, ◌<◌, ◌≤◌}
use mathlib.Core.Path.{◌≡◌}
use mathlib.Core.Bool.{Bool, true, false, ◌&&◌, ◌||◌}
use mathlib.Core.List.{List, [], ◌∷◌}
use lib.Dec.{eqb}
use Rattle.path_rules.specs.Expression.{Expr, letter, seq, alt, star, size}

-- may the expression be the empty word?
unfoldable pub nullable : Expr → Bool
nullable (letter l) = false
nullable (seq a b) = nullable a && nullable b
nullable (alt a b) = nullable a || nullable b
nullable (star a) = true

unfoldable pub first : Expr → ℕ → ℕ → Bool
first (letter l) n x = eqb x n
first (seq a b) n x = first a n x || (nullable a && first b (n + size a) x)
first (alt a b) n x = first a n x || first b (n + size a) x
first (star a) n x = first a n x

unfoldable pub last : Expr → ℕ → ℕ → Bool
last (letter l) n x = eqb x n
last (seq a b) n x = last b (n + size a) x || (nullable b && last a n x)
last (alt a b) n x = last a n x || last b (n + size a) x
last (star a) n x = last a n x

unfoldable pub follow : Expr → ℕ → ℕ → ℕ → Bool
follow (letter l) n p x = false
follow (seq a b) n p x = (follow a n p x || (last a n p && first b (n + size a) x)) || follow b (n + size a) p x
follow (alt a b) n p x = follow a n p x || follow b (n + size a) p x
follow (star a) n p x = follow a n p x || (last a n p && first a n x)

-- each position has its letter's label
abbrev pub Labelled : (ℕ → ℕ) → Expr → ℕ → Type 0
Labelled f (letter l) n = f n ≡ l
Labelled f (seq a b) n = Labelled f a n × Labelled f b (n + size a)
Labelled f (alt a b) n = Labelled f a n × Labelled f b (n + size a)
Labelled f (star a) n = Labelled f a n

-- with each position's label, the positions after it, and a number past all positions that stands
-- for the word's end
module _ (label : ℕ → ℕ) (after : ℕ → ℕ → Bool) (end : ℕ) where
  -- from one of the positions of a set the word leads to its end
  abbrev pub Leads : (ℕ → Bool) → List ℕ → Type 0
  Leads k [] = k end ≡ true
  Leads k (l ∷ w) = (p : ℕ) × (k p ≡ true) × (p < end) × (label p ≡ l) × Leads (after p) w

  -- the positions of an expression, behind which stands the set k
  abbrev pub Placed : Expr → ℕ → (ℕ → Bool) → Type 0
  Placed e n k = (p : ℕ) → n ≤ p → p < n + size e → (x : ℕ) → after p x ≡ (follow e n p x || (last e n p && k x))
