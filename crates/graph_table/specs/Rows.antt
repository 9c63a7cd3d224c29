-- The edges that leave a scope, by rows as they stand in a graph table: six cells a row, the second
-- is the scope that the row leaves, then come its label, the scope that it leads to and its turn
-- (02, K12). Assumes nothing: these are definitions.
use Rattle.std.specs.Prelude.{ℕ, ◌+◌, ◌≤◌, true, false, List, [], ◌∷◌, eqb, ltb, length, get_or, drop}
use Rattle.std.proofs.Math.Option.{some}
use Rattle.scope_graph.specs.Path.{HopOf}
use Rattle.scope_graph.specs.Turns.{Turned}

-- the hop of a label's number, a turn and a scope, and that of the row at a place
abbrev pub hop_to : ℕ → ℕ → ℕ → HopOf Turned
hop_to label turn to = record { step = record { label = label; turn = some turn }; to = to }

abbrev pub hop_at : List ℕ → ℕ → HopOf Turned
hop_at rows p = hop_to (get_or rows (p + 2) 0) (get_or rows (p + 4) 0) (get_or rows (p + 3) 0)

-- what a row that leaves `from` gives for scope s: one of two, as `from` is s or not; or of three,
-- as it is later than s, s itself or earlier
unfoldable pub if_own : {A : Type 0} → ℕ → ℕ → A → A → A
if_own s from own other = elim (eqb from s) [ true ↦ own | false ↦ other ]

unfoldable pub by_scope : {A : Type 0} → ℕ → ℕ → A → A → A → A
by_scope s from later own earlier = elim (ltb s from) [ true ↦ later | false ↦ if_own s from own earlier ]

-- 02, K4, for any rows: one hop for each row that leaves s and has no later scope's row above it,
-- from the top down. Cells that do not fill a row are none. What this comes to is said by places in
-- Promises (`AboveLater`).
unfoldable pub row_hops : List ℕ → ℕ → List (HopOf Turned)
row_hops [] s = []
row_hops (a ∷ []) s = []
row_hops (a ∷ from ∷ []) s = []
row_hops (a ∷ from ∷ label ∷ []) s = []
row_hops (a ∷ from ∷ label ∷ to ∷ []) s = []
row_hops (a ∷ from ∷ label ∷ to ∷ turn ∷ []) s = []
row_hops (a ∷ from ∷ label ∷ to ∷ turn ∷ x ∷ cells) s = by_scope s from [] (hop_to label turn to ∷ row_hops cells s) (row_hops cells s)

-- all rows of the scope, wherever they stand
unfoldable pub all_hops : List ℕ → ℕ → List (HopOf Turned)
all_hops [] s = []
all_hops (a ∷ []) s = []
all_hops (a ∷ from ∷ []) s = []
all_hops (a ∷ from ∷ label ∷ []) s = []
all_hops (a ∷ from ∷ label ∷ to ∷ []) s = []
all_hops (a ∷ from ∷ label ∷ to ∷ turn ∷ []) s = []
all_hops (a ∷ from ∷ label ∷ to ∷ turn ∷ x ∷ cells) s = if_own s from (hop_to label turn to ∷ all_hops cells s) (all_hops cells s)

-- the rows stand by ascending scope, from `least` on (01, "The gym file")
abbrev pub RowsAscend : ℕ → List ℕ → Type 0
RowsAscend least [] = Unit {0}
RowsAscend least (a ∷ []) = Unit {0}
RowsAscend least (a ∷ from ∷ []) = Unit {0}
RowsAscend least (a ∷ from ∷ label ∷ []) = Unit {0}
RowsAscend least (a ∷ from ∷ label ∷ to ∷ []) = Unit {0}
RowsAscend least (a ∷ from ∷ label ∷ to ∷ turn ∷ []) = Unit {0}
RowsAscend least (a ∷ from ∷ label ∷ to ∷ turn ∷ x ∷ cells) = (least ≤ from) × RowsAscend from cells

-- where the first row that `row_hops` finds stands, if the cells begin at place `at`; `none` if it
-- finds none
unfoldable pub place_from : ℕ → ℕ → List ℕ → ℕ → ℕ
place_from none s [] at = none
place_from none s (a ∷ []) at = none
place_from none s (a ∷ from ∷ []) at = none
place_from none s (a ∷ from ∷ label ∷ []) at = none
place_from none s (a ∷ from ∷ label ∷ to ∷ []) at = none
place_from none s (a ∷ from ∷ label ∷ to ∷ turn ∷ []) at = none
place_from none s (a ∷ from ∷ label ∷ to ∷ turn ∷ x ∷ cells) at = by_scope s from none at (place_from none s cells (at + 6))

-- the same of the rows from cell p on; the number of cells if there is none
unfoldable pub next_row : List ℕ → ℕ → ℕ → ℕ
next_row rows s p = place_from (length rows) s (drop p rows) p
