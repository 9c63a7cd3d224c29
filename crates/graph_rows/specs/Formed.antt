-- Which graph tables the test refuses nothing of, in terms of their sections' rows: the formed ones
-- (`TestTells`; document 01, "Who can cause a refusal"; 02, K8, K9 and K12). That just these can be
-- written, and that their text reads back as the table, is stated in graph_file/specs/Promises. These
-- are the statements; their values are in proofs/FormedTable, FormedForms and FormedChanges. Assumes
-- nothing: these are definitions.
use Rattle.std.specs.Prelude.{ℕ, zero, suc, ◌≤◌, ◌<◌, ◌≡◌, List, [], ◌∷◌, ◌++◌, map, Bool, true, false, not, ◌||◌, ◌↔◌, eqb, length, get_or, drop}
use Rattle.scope_graph.specs.Language.{◌∈◌}
use Rattle.scope_graph.specs.Path.{Distinct}
use Rattle.scope_graph.specs.Listing.{Pairwise}
use Rattle.scope_graph.specs.Computed.{keep}
use Rattle.graph_rows.specs.Format.{plain_kind, Item, Sequence, ascending, apart, once, free, section_at, shape_at, old_form, kind_form, turn_form, label_section, pair_section, count_section, edge_section, declaration_section, query_section}
use Rattle.graph_rows.specs.Admission.{Row, value, blank, in_range, key_less, same_edge}
use Rattle.graph_rows.specs.Values.{formed}
use Rattle.graph_rows.specs.Order.{some_row, order_fault}
use Rattle.graph_rows.specs.Tested.{form_in, table_refusal}
use Rattle.graph_rows.specs.Decode.{rows_in}

-- the cells of section k's rows: for each row the section's number, then its values
unfoldable pub cells_of : ℕ → List Row → List ℕ
cells_of k [] = []
cells_of k (row ∷ rows) = k ∷ (row ++ cells_of k rows)

-- the cells of `left` sections in turn, from section k on, given each section's rows
unfoldable pub cells_from : ℕ → ℕ → (ℕ → List Row) → List ℕ
cells_from zero k rows = []
cells_from (suc left) k rows = cells_of k (rows k) ++ cells_from left (suc k) rows

-- the graph table of a form whose sections have these rows
unfoldable pub table_of : ℕ → (ℕ → List Row) → List ℕ
table_of form rows = form ∷ cells_from 9 0 rows

-- how many scopes there are, from the one row of their count
unfoldable pub scopes_in : (ℕ → List Row) → ℕ
scopes_in rows = value (get_or (rows count_section) 0 blank) 0

-- The rows follow one another as their section asks. If they ascend, each stands before all later
-- ones by the key; if they also stand apart, no two are the same edge. Labels have different
-- letters. Rows of other sections are free.
abbrev pub InTurn : Sequence → List ℕ → List Row → Type 0
InTurn ascending key rows = Pairwise (λ (a b : Row). key_less key a b ≡ true) rows
InTurn apart key rows = Pairwise (λ (a b : Row). key_less key a b ≡ true) rows × Pairwise (λ (a b : Row). same_edge a b ≡ false) rows
InTurn once key rows = Distinct (map (λ (row : Row). value row 0) rows)
InTurn free key rows = Unit {0}

-- A row fits the items of its line, with so many labels and scopes: it has five values, they can be
-- written (no refusal 2), and each is in its range (no 3).
pub record FormedRow (labels scopes : ℕ) (items : List Item) (row : Row) : Type 0 where
  pub five : length row ≡ 5
  pub formed : formed items row ≡ true
  pub in_range : in_range labels scopes items row ≡ true

-- The rows of section k in a file of a form: each is formed, they follow one another as they must
-- (no 4), and there are neither too few (2) nor too many (5).
pub record FormedSection (labels scopes form k : ℕ) (rows : List Row) : Type 0 where
  pub each : (row : Row) → row ∈ rows → FormedRow labels scopes (shape_at form k).row row
  pub in_turn : InTurn (section_at k).sequence (section_at k).key rows
  pub least : (section_at k).least ≤ length rows
  pub most : length rows ≤ (section_at k).most

-- The rows of all sections, in one of the three forms: each section is formed, with the labels and
-- scopes that the rows themselves give, and the order has no fault (no 6).
pub record FormedRows (form : ℕ) (rows : ℕ → List Row) : Type 0 where
  pub known : form ≤ turn_form
  pub sections : (k : ℕ) → k < 9 → FormedSection (length (rows label_section)) (scopes_in rows) form k (rows k)
  pub order : order_fault (rows pair_section) ≡ false

-- A table holds its form, then its sections in turn, with nothing between or after them, and its
-- rows are formed in that form.
pub record FormedTable (cells : List ℕ) : Type 0 where
  pub in_turn : cells ≡ table_of (form_in cells) (λ k. rows_in k cells)
  pub rows : FormedRows (form_in cells) (λ k. rows_in k cells)

-- formed rows make a formed table, whose form and rows are these
abbrev pub TableFormed : Type 0
TableFormed = (form : ℕ) (rows : ℕ → List Row) → FormedRows form rows
    → FormedTable (table_of form rows) × ((k : ℕ) → k < 9 → rows_in k (table_of form rows) ≡ rows k)

-- a table is formed exactly if its test refuses nothing
abbrev pub TestTells : Type 0
TestTells = (cells : List ℕ) → (table_refusal cells ≡ 0) ↔ FormedTable cells

-- Does the row, a declaration's or a query's, have another kind than `v`?
unfoldable pub other_kind : Row → Bool
other_kind row = not (eqb (value row 1) plain_kind)

-- Does a table have other kinds than `v`, so that a form without kinds cannot show it (02, K9)?
unfoldable pub other_kinds : List ℕ → Bool
other_kinds cells = some_row other_kind (rows_in declaration_section cells) || some_row other_kind (rows_in query_section cells)

-- Does the row, an edge's, have another turn than 0?
unfoldable pub other_turn : Row → Bool
other_turn row = not (eqb (value row 3) 0)

-- Does a table have other turns than 0, so that a form without turns cannot show it (02, K9 with
-- K12)?
unfoldable pub other_turns : List ℕ → Bool
other_turns cells = some_row other_turn (rows_in edge_section cells)

-- a table with another form in its first cell
unfoldable pub in_form : ℕ → List ℕ → List ℕ
in_form form cells = form ∷ drop 1 cells

-- the rows stay the same, and so does all that is decoded from them (specs/Decode)
abbrev pub RowsStay : Type 0
RowsStay = (form k : ℕ) (cells : List ℕ) → rows_in k (in_form form cells) ≡ rows_in k cells

-- In which forms a table is formed: in the form with turns always; in the form with kinds alone
-- exactly if no edge has another turn than 0; in the old one exactly if besides no declaration and
-- no query has another kind than `v`. In its own form it is the table itself.
pub record FormsOf (cells : List ℕ) : Type 0 where
  pub turned : FormedTable (in_form turn_form cells)
  pub kinded : FormedTable (in_form kind_form cells) ↔ (other_turns cells ≡ false)
  pub old : FormedTable (in_form old_form cells) ↔ ((other_kinds cells ≡ false) × (other_turns cells ≡ false))
  pub own : in_form (form_in cells) cells ≡ cells

-- so it is with every formed table, whatever its form
abbrev pub FormChanged : Type 0
FormChanged = (cells : List ℕ) → FormedTable cells → FormsOf cells

-- other rows for section k
unfoldable pub replaced : ℕ → List Row → (ℕ → List Row) → ℕ → List Row
replaced k new rows j = elim (eqb j k) [ true ↦ new | false ↦ rows j ]

-- The rows of any section but the labels and the count may be replaced by other formed rows; order
-- pairs only by pairs without a fault.
abbrev pub SectionReplaced : Type 0
SectionReplaced = (form : ℕ) (rows : ℕ → List Row) (k : ℕ) (new : List Row) → FormedRows form rows
    → ¬ (k ≡ label_section) → ¬ (k ≡ count_section)
    → FormedSection (length (rows label_section)) (scopes_in rows) form k new → (k ≡ pair_section → order_fault new ≡ false)
    → FormedRows form (replaced k new rows)

-- May a row join rows that ascend? Among edges, only if the same edge is not there yet.
abbrev pub MayJoin : Sequence → Row → List Row → Type 0
MayJoin ascending row rows = Unit {0}
MayJoin apart row rows = (a : Row) → a ∈ rows → same_edge a row ≡ false
MayJoin once row rows = ⊥
MayJoin free row rows = ⊥

-- A section that ascends and is not full may get another formed row at its place (02, K10).
abbrev pub RowAdded : Type 0
RowAdded = (labels scopes form k : ℕ) (above below : List Row) (row : Row) → MayJoin (section_at k).sequence row (above ++ below)
    → FormedSection labels scopes form k (above ++ below) → FormedRow labels scopes (shape_at form k).row row
    → length (above ++ below) < (section_at k).most
    → ((a : Row) → a ∈ above → key_less (section_at k).key a row ≡ true)
    → ((b : Row) → b ∈ below → key_less (section_at k).key row b ≡ true)
    → FormedSection labels scopes form k (above ++ (row ∷ below))

-- A section that may be empty may lose any of its rows.
abbrev pub RowsKept : Type 0
RowsKept = (labels scopes form k : ℕ) (test : Row → Bool) (rows : List Row) → (section_at k).least ≡ 0
    → FormedSection labels scopes form k rows → FormedSection labels scopes form k (keep test rows)
