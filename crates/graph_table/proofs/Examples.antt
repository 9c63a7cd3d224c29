-- Worked examples on rows that do not ascend (02, K4). Assumes nothing.
use mathlib.Core.Path.{◌≡◌, refl}
use mathlib.Core.List.{List, [], ◌∷◌}
use Prim.Native.Nat.{ℕ}
use Rattle.graph_table.specs.Rows.{hop_to, if_own, by_scope, row_hops, all_hops, place_from, next_row}

-- an edge row
abbrev row : ℕ → ℕ → ℕ → ℕ → List ℕ → List ℕ
row from label turn to cells = 5 ∷ from ∷ label ∷ to ∷ turn ∷ 0 ∷ cells

-- rows of scopes 0, 2, 1, 2, 3, 2, each told by its label; the second has turn 9 (02, K12)
abbrev mixed : List ℕ
mixed = row 0 0 0 7 (row 2 1 9 7 (row 1 2 0 7 (row 2 3 0 7 (row 3 4 0 7 (row 2 5 0 7 [])))))

-- scope 2 has the first two of its three rows
pub first_two : row_hops mixed 2 ≡ hop_to 1 9 7 ∷ hop_to 3 0 7 ∷ []
unfolding row_hops by_scope if_own
first_two = refl

pub three_in_all : all_hops mixed 2 ≡ hop_to 1 9 7 ∷ hop_to 3 0 7 ∷ hop_to 5 0 7 ∷ []
unfolding all_hops if_own
three_in_all = refl

-- looked for one after the other: at cells 6 and 18, then none
pub first_place : next_row mixed 2 0 ≡ 6
unfolding next_row place_from by_scope if_own
first_place = refl

pub second_place : next_row mixed 2 12 ≡ 18
unfolding next_row place_from by_scope if_own
second_place = refl

pub no_more : next_row mixed 2 24 ≡ 36
unfolding next_row place_from by_scope if_own
no_more = refl

-- from cell 30 on, behind the row of scope 3: what stands above is not looked at
pub place_behind : next_row mixed 2 30 ≡ 30
unfolding next_row place_from by_scope if_own
place_behind = refl

-- scopes 2, 2, 3, 2, the first two rows equal: each of these is found, at its place
abbrev equal : List ℕ
equal = row 2 1 0 7 (row 2 1 0 7 (row 3 1 0 7 (row 2 1 0 7 [])))

pub both : row_hops equal 2 ≡ hop_to 1 0 7 ∷ hop_to 1 0 7 ∷ []
unfolding row_hops by_scope if_own
both = refl

pub both_places : next_row equal 2 0 ≡ 0
unfolding next_row place_from by_scope if_own
both_places = refl

pub other_place : next_row equal 2 6 ≡ 6
unfolding next_row place_from by_scope if_own
other_place = refl

-- a later scope first: none is found
pub none_behind : row_hops (row 3 0 0 7 (row 2 1 0 7 [])) 2 ≡ []
unfolding row_hops by_scope if_own
none_behind = refl
