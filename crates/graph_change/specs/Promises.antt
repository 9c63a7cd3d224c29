-- What is promised of a changed graph table. These are the statements; their values are in
-- proofs/RowLaws, ChangeLaws, TableLaws and FormedLaws. Assumes nothing: these are definitions.
use Rattle.std.specs.Prelude.{ℕ, ◌<◌, ◌≡◌, List, [], ◌∷◌, true, false, ◌⊎◌, ◌↔◌, length}
use Rattle.scope_graph.specs.Language.{◌∈◌}
use Rattle.scope_graph.specs.Listing.{Pairwise}
use Rattle.graph_rows.specs.Format.{Sequence, ascending, apart, once, free, section_at, shape_at, label_section, pair_section, count_section, edge_section}
use Rattle.graph_rows.specs.Admission.{Row, key_less, repeats}
use Rattle.graph_rows.specs.Order.{order_fault}
use Rattle.graph_rows.specs.Tested.{form_in}
use Rattle.graph_rows.specs.Decode.{rows_in}
use Rattle.graph_rows.specs.Formed.{cells_of, table_of, scopes_in, FormedRow, FormedSection, FormedTable, replaced, MayJoin}
use Rattle.std.specs.declared.result.Result.{Result}
use Rattle.std.specs.declared.result.Result.TheVariants.{Ok, Err}
use Rattle.graph_change.specs.Cells.{spliced}
use Rattle.graph_change.specs.Place.{same_key, place_in}
use Rattle.graph_change.specs.Changed.{inserted, removed, inserted_all, with_row, without_row, with_rows}

-- rows that ascend strictly by a key
abbrev pub Ascending : List ℕ → List Row → Type 0
Ascending key rows = Pairwise (λ (a b : Row). key_less key a b ≡ true) rows

-- no row has the key of the row given
abbrev pub NoneLike : List ℕ → Row → List Row → Type 0
NoneLike key row rows = (a : Row) → a ∈ rows → same_key key a row ≡ false

-- What was put in is there, and nothing else has changed; rows that ascend still do, where none of
-- them has the new one's key.
pub record Inserted (key : List ℕ) (row : Row) (rows : List Row) : Type 0 where
  pub has : (a : Row) → (a ∈ inserted key row rows) ↔ ((a ≡ row) ⊎ (a ∈ rows))
  pub ascends : Ascending key rows → NoneLike key row rows → Ascending key (inserted key row rows)

abbrev pub InsertedIs : Type 0
InsertedIs = (key : List ℕ) (row : Row) (rows : List Row) → Inserted key row rows

-- Of rows that ascend, those are left that have another key; they still ascend.
pub record Removed (key : List ℕ) (row : Row) (rows : List Row) : Type 0 where
  pub has : (a : Row) → (a ∈ removed key row rows) ↔ ((a ∈ rows) × (same_key key a row ≡ false))
  pub ascends : Ascending key (removed key row rows)

abbrev pub RemovedIs : Type 0
RemovedIs = (key : List ℕ) (row : Row) (rows : List Row) → Ascending key rows → Removed key row rows

-- two ascending lists with the same rows are one list
abbrev pub OneList : Type 0
OneList = (key : List ℕ) (rows others : List Row) → Ascending key rows → Ascending key others
    → ((a : Row) → (a ∈ rows) ↔ (a ∈ others)) → rows ≡ others

-- Rows of different keys put in one after the other: those rows, ascending. Rows that ascend already
-- come out as they are.
pub record Sorted (key : List ℕ) (rows : List Row) : Type 0 where
  pub has : (a : Row) → (a ∈ inserted_all key rows []) ↔ (a ∈ rows)
  pub ascends : Ascending key (inserted_all key rows [])

abbrev pub SortedIs : Type 0
SortedIs = (key : List ℕ) (rows : List Row) → Pairwise (λ (a b : Row). same_key key a b ≡ false) rows → Sorted key rows

abbrev pub SortedAlready : Type 0
SortedAlready = (key : List ℕ) (rows : List Row) → Ascending key rows → inserted_all key rows [] ≡ rows

-- the sections' rows have five values each
abbrev pub FiveValues : (ℕ → List Row) → Type 0
FiveValues rows = (k : ℕ) → k < 9 → (row : Row) → row ∈ rows k → length row ≡ 5

-- The changes of cells are changes of one section's rows, in a table whose sections stand in turn.
abbrev pub RowPut : Type 0
RowPut = (form : ℕ) (rows : ℕ → List Row) → FiveValues rows → (k : ℕ) → k < 9 → (row : Row) → length row ≡ 5
    → with_row k row (table_of form rows) ≡ table_of form (replaced k (inserted (section_at k).key row (rows k)) rows)

abbrev pub RowTaken : Type 0
RowTaken = (form : ℕ) (rows : ℕ → List Row) → FiveValues rows → (k : ℕ) → k < 9 → (row : Row)
    → without_row k row (table_of form rows) ≡ table_of form (replaced k (removed (section_at k).key row (rows k)) rows)

abbrev pub RowsPut : Type 0
RowsPut = (form : ℕ) (rows : ℕ → List Row) → FiveValues rows → (k : ℕ) → k < 9 → (new : List Row)
    → with_rows k (cells_of k new) (table_of form rows) ≡ table_of form (replaced k new rows)

-- What a place says of the rows of a section: no row has the key, or one has.
pub record Found (key : List ℕ) (row : Row) (rows : List Row) (place : Result ℕ ℕ) : Type 0 where
  pub free : (p : ℕ) → place ≡ Err p → NoneLike key row rows
  pub there : (p : ℕ) → place ≡ Ok p → (a : Row) × (a ∈ rows) × (same_key key a row ≡ true)

abbrev pub PlaceFound : Type 0
PlaceFound = (form : ℕ) (rows : ℕ → List Row) → FiveValues rows → (k : ℕ) → k < 9 → (row : Row) → Ascending (section_at k).key (rows k)
    → Found (section_at k).key row (rows k) (place_in k row (table_of form rows))

-- The place itself serves: a row put where `find` says none stands makes, of any cells, what
-- `insert` makes, and a row taken out where it says one stands makes what `remove` makes.
pub record PlaceServes (k : ℕ) (row : Row) (cells : List ℕ) (place : Result ℕ ℕ) : Type 0 where
  pub free : (p : ℕ) → place ≡ Err p → spliced p 0 (k ∷ row) cells ≡ with_row k row cells
  pub there : (p : ℕ) → place ≡ Ok p → spliced p 6 [] cells ≡ without_row k row cells

abbrev pub PlaceExact : Type 0
PlaceExact = (k : ℕ) (row : Row) (cells : List ℕ) → PlaceServes k row cells (place_in k row cells)

-- A formed table (graph_rows/specs/Formed) whose section k was given other rows: it is formed, with
-- these rows there and all else as it was.
pub record ChangedAt (k : ℕ) (new : List Row) (cells changed : List ℕ) : Type 0 where
  pub formed : FormedTable changed
  pub form : form_in changed ≡ form_in cells
  pub own : rows_in k changed ≡ new
  pub others : (j : ℕ) → j < 9 → ¬ (j ≡ k) → rows_in j changed ≡ rows_in j cells

-- how many scopes a table has, by its rows
abbrev pub scopes_at : List ℕ → ℕ
scopes_at cells = scopes_in (λ k. rows_in k cells)

-- Does a section ascend, as its sequence says?
abbrev pub Ascends : Sequence → Type 0
Ascends ascending = Unit {0}
Ascends apart = Unit {0}
Ascends once = ⊥
Ascends free = ⊥

-- Which rows may join a section that ascends: any row, but among the edges only one that `has_edge`
-- does not find.
abbrev pub JoinTold : Type 0
JoinTold = (cells : List ℕ) (k : ℕ) → k < 9 → Ascends (section_at k).sequence → (row : Row)
    → MayJoin (section_at k).sequence row (rows_in k cells) ↔ (k ≡ edge_section → repeats (rows_in edge_section cells) row ≡ false)

-- A formed table stays formed: with a formed row more in a section that ascends and has room, where
-- none has its key; with a row less; with other formed rows. The order pairs must have no fault.
abbrev pub FormedPut : Type 0
FormedPut = (cells : List ℕ) → FormedTable cells → (k : ℕ) → k < 9 → (row : Row) → MayJoin (section_at k).sequence row (rows_in k cells)
    → FormedRow (length (rows_in label_section cells)) (scopes_at cells) (shape_at (form_in cells) k).row row
    → length (rows_in k cells) < (section_at k).most → NoneLike (section_at k).key row (rows_in k cells)
    → (k ≡ pair_section → order_fault (inserted (section_at k).key row (rows_in k cells)) ≡ false)
    → ChangedAt k (inserted (section_at k).key row (rows_in k cells)) cells (with_row k row cells)

abbrev pub FormedTaken : Type 0
FormedTaken = (cells : List ℕ) → FormedTable cells → (k : ℕ) → k < 9 → Ascends (section_at k).sequence → (row : Row)
    → (k ≡ pair_section → order_fault (removed (section_at k).key row (rows_in k cells)) ≡ false)
    → ChangedAt k (removed (section_at k).key row (rows_in k cells)) cells (without_row k row cells)

abbrev pub FormedReplaced : Type 0
FormedReplaced = (cells : List ℕ) → FormedTable cells → (k : ℕ) → k < 9 → ¬ (k ≡ label_section) → ¬ (k ≡ count_section) → (new : List Row)
    → FormedSection (length (rows_in label_section cells)) (scopes_at cells) (form_in cells) k new → (k ≡ pair_section → order_fault new ≡ false)
    → ChangedAt k new cells (with_rows k (cells_of k new) cells)

-- a formed table's section that ascends does so by its key, and what `find` says of it is so
abbrev pub FormedFound : Type 0
FormedFound = (cells : List ℕ) → FormedTable cells → (k : ℕ) → k < 9 → Ascends (section_at k).sequence
    → Ascending (section_at k).key (rows_in k cells) × ((row : Row) → Found (section_at k).key row (rows_in k cells) (place_in k row cells))
