-- Small tables changed, by computation: a first, a last and an only row, a row that is there
-- already, an edge by its turn and at another. Assumes nothing.
use Prim.Native.Nat.{ℕ}
use mathlib.Core.Path.{◌≡◌, refl}
use mathlib.Core.List.{List, [], ◌∷◌, ◌++◌}
use mathlib.Core.Bool.{true, false}
use Rattle.graph_rows.specs.Format.{edges, open_pairs, sections, section_at, edge_section, open_section}
use Rattle.graph_rows.specs.Admission.{Row, row_of, key_less, same_source, same_edge, repeats}
use Rattle.graph_rows.specs.Way.{starts_with}
use Rattle.graph_rows.specs.Decode.{kept_if, rows_among, rows_in}
use Rattle.graph_table.specs.Sections.{leading, start_of}
use Rattle.std.specs.declared.result.Result.TheVariants.{Ok, Err}
use Rattle.graph_change.specs.Cells.{spliced}
use Rattle.graph_change.specs.Place.{same_key, is_before, leading_rows, place_for, has_key, placed, place_in}
use Rattle.graph_change.specs.Changed.{with_row, without_at, without_row, with_rows}

-- five scopes, some open rows, one query
abbrev opened : ℕ → ℕ → List ℕ
opened at end = 7 ∷ at ∷ end ∷ 0 ∷ 0 ∷ 0 ∷ []

abbrev table : List ℕ → List ℕ
table opens = 0 ∷ 4 ∷ 5 ∷ 0 ∷ 0 ∷ 0 ∷ 0 ∷ (opens ++ (8 ∷ 2 ∷ 118 ∷ 97 ∷ 0 ∷ 0 ∷ []))

abbrev row : ℕ → ℕ → Row
row at end = at ∷ end ∷ 0 ∷ 0 ∷ 0 ∷ []

-- before all, between, after all, into none
first_in : with_row open_section (row 0 2) (table (opened 1 0 ++ opened 3 1)) ≡ table (opened 0 2 ++ (opened 1 0 ++ opened 3 1))
unfolding open_pairs sections section_at row_of key_less leading start_of spliced starts_with is_before leading_rows place_for with_row
first_in = refl

middle_in : with_row open_section (row 3 0) (table (opened 1 0 ++ opened 3 1)) ≡ table (opened 1 0 ++ (opened 3 0 ++ opened 3 1))
unfolding open_pairs sections section_at row_of key_less leading start_of spliced starts_with is_before leading_rows place_for with_row
middle_in = refl

last_in : with_row open_section (row 4 0) (table (opened 1 0 ++ opened 3 1)) ≡ table (opened 1 0 ++ (opened 3 1 ++ opened 4 0))
unfolding open_pairs sections section_at row_of key_less leading start_of spliced starts_with is_before leading_rows place_for with_row
last_in = refl

only_in : with_row open_section (row 4 0) (table []) ≡ table (opened 4 0)
unfolding open_pairs sections section_at row_of key_less leading start_of spliced starts_with is_before leading_rows place_for with_row
only_in = refl

-- a row that is there is found, stands twice if it is put in, and is taken out
is_there : place_in open_section (row 3 1) (table (opened 1 0 ++ opened 3 1)) ≡ Ok 13
unfolding open_pairs sections section_at row_of key_less leading start_of starts_with is_before leading_rows place_for same_key has_key placed place_in
is_there = refl

is_free : place_in open_section (row 2 1) (table (opened 1 0 ++ opened 3 1)) ≡ Err 13
unfolding open_pairs sections section_at row_of key_less leading start_of starts_with is_before leading_rows place_for same_key has_key placed place_in
is_free = refl

twice_in : with_row open_section (row 3 1) (table (opened 1 0 ++ opened 3 1)) ≡ table (opened 1 0 ++ (opened 3 1 ++ opened 3 1))
unfolding open_pairs sections section_at row_of key_less leading start_of spliced starts_with is_before leading_rows place_for with_row
twice_in = refl

first_out : without_row open_section (row 1 0) (table (opened 1 0 ++ opened 3 1)) ≡ table (opened 3 1)
unfolding open_pairs sections section_at row_of key_less leading start_of spliced starts_with is_before leading_rows place_for same_key has_key placed place_in without_at without_row
first_out = refl

last_out : without_row open_section (row 3 1) (table (opened 1 0 ++ opened 3 1)) ≡ table (opened 1 0)
unfolding open_pairs sections section_at row_of key_less leading start_of spliced starts_with is_before leading_rows place_for same_key has_key placed place_in without_at without_row
last_out = refl

only_out : without_row open_section (row 3 1) (table (opened 3 1)) ≡ table []
unfolding open_pairs sections section_at row_of key_less leading start_of spliced starts_with is_before leading_rows place_for same_key has_key placed place_in without_at without_row
only_out = refl

none_out : without_row open_section (row 3 0) (table (opened 1 0 ++ opened 3 1)) ≡ table (opened 1 0 ++ opened 3 1)
unfolding open_pairs sections section_at row_of key_less leading start_of spliced starts_with is_before leading_rows place_for same_key has_key placed place_in without_at without_row
none_out = refl

-- a section's rows replaced, and taken out all
others_in : with_rows open_section (opened 2 2) (table (opened 1 0 ++ opened 3 1)) ≡ table (opened 2 2)
unfolding leading start_of spliced starts_with leading_rows with_rows
others_in = refl

all_out : with_rows open_section [] (table (opened 1 0 ++ opened 3 1)) ≡ table []
unfolding leading start_of spliced starts_with leading_rows with_rows
all_out = refl

-- of two edges by one label that of the lower turn comes first, wherever it leads
turn_first : with_row edge_section (2 ∷ 0 ∷ 4 ∷ 1 ∷ 0 ∷ []) (2 ∷ 5 ∷ 2 ∷ 0 ∷ 1 ∷ 2 ∷ 0 ∷ []) ≡ 2 ∷ 5 ∷ 2 ∷ 0 ∷ 4 ∷ 1 ∷ 0 ∷ 5 ∷ 2 ∷ 0 ∷ 1 ∷ 2 ∷ 0 ∷ []
unfolding edges sections section_at row_of key_less leading start_of spliced starts_with is_before leading_rows place_for with_row
turn_first = refl

-- an edge at another turn: no row has its key, yet the edge is there
abbrev one_edge : List ℕ
one_edge = 2 ∷ 5 ∷ 2 ∷ 0 ∷ 1 ∷ 2 ∷ 0 ∷ []

turn_free : place_in edge_section (2 ∷ 0 ∷ 1 ∷ 7 ∷ 0 ∷ []) one_edge ≡ Err 7
unfolding edges sections section_at row_of key_less leading start_of starts_with is_before leading_rows place_for same_key has_key placed place_in
turn_free = refl

turn_there : repeats (rows_in edge_section one_edge) (2 ∷ 0 ∷ 1 ∷ 7 ∷ 0 ∷ []) ≡ true
unfolding kept_if rows_among rows_in same_source same_edge repeats
turn_there = refl

edge_absent : repeats (rows_in edge_section one_edge) (2 ∷ 0 ∷ 4 ∷ 2 ∷ 0 ∷ []) ≡ false
unfolding kept_if rows_among rows_in same_source same_edge repeats
edge_absent = refl

-- cells that are no graph's: none, the form alone, too few for a row
no_cells : with_row open_section (row 1 1) [] ≡ opened 1 1
unfolding leading start_of spliced leading_rows place_for with_row
no_cells = refl

few_cells : with_row open_section (row 1 1) (0 ∷ 7 ∷ 1 ∷ []) ≡ 0 ∷ (opened 1 1 ++ (7 ∷ 1 ∷ []))
unfolding leading start_of spliced leading_rows place_for with_row
few_cells = refl
