-- What is promised of the rows of a scope, whatever the rows, and of an order row's ends. Values are
-- in proofs/Promises. Assumes nothing: these are definitions.
use Rattle.std.specs.Prelude.{ℕ, ◌+◌, ◌*◌, ◌≤◌, ◌<◌, ◌≡◌, List, [], ◌∷◌, ◌++◌, length, get_or, drop}
use Rattle.scope_graph.specs.Turns.{label_end}
use Rattle.scope_graph.specs.Order.{end_of, meaning}
use Rattle.graph_table.specs.Values.{row_end}
use Rattle.graph_table.specs.Rows.{hop_at, row_hops, all_hops, RowsAscend, next_row}

-- the next row from cell p on is the first of those that are found from there on, and behind it
-- stand the others. It leaves s, and each row from p on that stands above it leaves an earlier
-- scope.
pub record NextRow (rows : List ℕ) (s p r : ℕ) : Type 0 where
  pub most : r ≤ length rows
  pub none : length rows ≤ r → row_hops (drop p rows) s ≡ []
  pub on : r < length rows → p ≤ r
  pub whole : r < length rows → r + 6 ≤ length rows
  pub leaves : r < length rows → get_or rows (r + 1) 0 ≡ s
  pub passed : r < length rows → (k : ℕ) × (r ≡ p + 6 * k) × ((j : ℕ) → j < k → get_or rows (p + 6 * j + 1) 0 < s)
  pub hops : r < length rows → row_hops (drop p rows) s ≡ hop_at rows r ∷ row_hops (drop (r + 6) rows) s

abbrev pub NextIs : Type 0
NextIs = (rows : List ℕ) (s p : ℕ) → NextRow rows s p (next_row rows s p)

-- and this holds of no other place
abbrev pub NextOne : Type 0
NextOne = (rows : List ℕ) (s p r : ℕ) → NextRow rows s p r → r ≡ next_row rows s p

-- whole rows, none of which leaves a scope later than s
pub record NoneLater (rows : List ℕ) (s : ℕ) : Type 0 where
  pub count : ℕ
  pub whole : length rows ≡ 6 * count
  pub most : (k : ℕ) → k < count → get_or rows (6 * k + 1) 0 ≤ s

-- 02, K4: of the rows above the first row of a later scope, all that leave s are found and nothing
-- else is; the cells behind that row are any. Without such a row all that leave s are found.
abbrev pub AboveLater : Type 0
AboveLater =
    (above behind : List ℕ) (s a from label to turn x : ℕ)
    → NoneLater above s
    → s < from
    → row_hops (above ++ (a ∷ from ∷ label ∷ to ∷ turn ∷ x ∷ behind)) s ≡ all_hops above s

abbrev pub WithoutLater : Type 0
WithoutLater = (rows : List ℕ) (s : ℕ) → NoneLater rows s → row_hops rows s ≡ all_hops rows s

-- of rows that ascend all rows of the scope are found, so there it changes nothing to stop at a
-- later scope's row (02, K4)
abbrev pub AscendingAll : Type 0
AscendingAll = (rows : List ℕ) → RowsAscend 0 rows → (s : ℕ) → row_hops rows s ≡ all_hops rows s

-- an order row's end means the rules' end of its cell (01, "The gym file", the rows `less more`)
abbrev pub RowEndIs : Type 0
RowEndIs = (cell : ℕ) → label_end (meaning (row_end cell)) ≡ end_of cell
