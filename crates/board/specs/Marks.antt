-- The declarations of a name: their marks at a scope, the scopes that have one, and the part of the
-- table in which a scope's declarations stand. Assumes nothing: these are definitions.
use Rattle.std.specs.Prelude.{ℕ, ◌+◌, ◌<◌, ◌≡◌, Bool, true, false, List, [], ◌∷◌, map}
use Rattle.scope_graph.specs.Rows.{PackedName, any_of}
use Rattle.graph_rows.specs.Admission.{Row}
use Rattle.block.specs.Sets.{has_scope}
use Rattle.graph_table.specs.Sections.{leading, rows_of}
use Rattle.graph_table.specs.Values.{row_declared, declares}

-- a declaration row's mark, if it declares the name at the scope, before those of the rows after it
unfoldable pub declared_here : Bool → ℕ → List ℕ → List ℕ
declared_here here mark rest = elim here [ true ↦ mark ∷ rest | false ↦ rest ]

-- The marks of the declarations of a name at a scope, in row sequence: of these rows, and of the
-- rows in these cells.
unfoldable pub marks_of : List Row → ℕ → PackedName → List ℕ
marks_of [] s x = []
marks_of (row ∷ rows) s x = declared_here (declares x s (row_declared row)) (row_declared row).mark (marks_of rows s x)

unfoldable pub marks_in : List ℕ → ℕ → PackedName → List ℕ
marks_in cells s x = marks_of (rows_of cells) s x

-- a set of scopes: those below 64 where some row declares the name
abbrev pub DeclaringIs : List ℕ → PackedName → ℕ → Type 0
DeclaringIs rows x set = (s : ℕ) → s < 64 → has_scope set s ≡ any_of (declares x s) (map row_declared (rows_of rows))

-- where scope s's declarations start: in the part of the declarations, which stands at `from`,
-- behind the rows of the scopes below it
unfoldable pub declared_cell : ℕ → List ℕ → ℕ → ℕ
declared_cell from rows s = from + leading 1 s rows
