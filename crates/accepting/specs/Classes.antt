-- Classes of rows, by which code finds those that may be repeated: rows with the same bytes are of
-- one class. Assumes nothing: these are definitions.
use Rattle.std.specs.Prelude.{ℕ, ◌+◌, ◌*◌, ◌%◌, ◌≤◌, ◌≡◌, true, false, List, [], ◌∷◌, eqb, get_or, set}
use Rattle.path_row.specs.Form.{PathRow, row_text}
use Rattle.accepting.specs.Tests.{is_among}

-- the class of bytes, after those that gave the class before them
unfoldable pub class_from : ℕ → List ℕ → ℕ
class_from class [] = class
class_from class (x ∷ s) = class_from ((class * 31 + x) % 65536) s

unfoldable pub class_of : List ℕ → ℕ
class_of s = class_from 0 s

-- the count of a class with one row more: one, or more than one
unfoldable pub raised : ℕ → ℕ
raised n = elim (eqb n 0) [ true ↦ 1 | false ↦ 2 ]

-- the counts with these rows more
unfoldable pub class_counts : List ℕ → List PathRow → List ℕ
class_counts counts [] = counts
class_counts counts (r ∷ rows) = class_counts (set counts (class_of (row_text r)) (raised (get_or counts (class_of (row_text r)) 0))) rows

-- the counts tell each row that is repeated: its class has two rows at least; a class without a count
-- may have
abbrev pub Tells : List ℕ → List PathRow → Type 0
Tells counts [] = Unit {0}
Tells counts (r ∷ rows) = (is_among r rows ≡ true → 2 ≤ get_or counts (class_of (row_text r)) 2) × Tells counts rows
