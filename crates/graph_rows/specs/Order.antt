-- Refusal 6, over the rows of the order pairs (document 01, "Who can cause a refusal").
-- Assumes nothing: these are definitions.
use Rattle.std.specs.Prelude.{ℕ, List, [], ◌∷◌, Bool, false, not, ◌&&◌, ◌||◌, eqb}
use Rattle.graph_rows.specs.Admission.{Row, value}

-- Does the test hold of some row?
unfoldable pub some_row : (Row → Bool) → List Row → Bool
some_row test [] = false
some_row test (p ∷ ps) = test p || some_row test ps

-- Has the pair these ends?
unfoldable pub same_ends : ℕ → ℕ → Row → Bool
same_ends a b p = eqb (value p 0) a && eqb (value p 1) b

-- After a pair a, b: is p a pair b, c such that there is no a, c?
unfoldable pub gap : List Row → ℕ → ℕ → Row → Bool
gap pairs a b p = eqb (value p 0) b && not (some_row (same_ends a (value p 1)) pairs)

-- Has the pair equal ends, or does a gap follow it?
unfoldable pub pair_fault : List Row → Row → Bool
pair_fault pairs p = eqb (value p 0) (value p 1) || some_row (gap pairs (value p 0) (value p 1)) pairs

-- refusal 6 holds of these pairs
unfoldable pub order_fault : List Row → Bool
order_fault pairs = some_row (pair_fault pairs) pairs
