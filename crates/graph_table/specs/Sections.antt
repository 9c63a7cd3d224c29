-- The form of a graph table, and where the rows of a section stand in it: its first cell is the
-- form, then each row has six cells, the section's number and five values (document 01, "The gym
-- file": the sections stand in a sequence). Assumes nothing: these are definitions.
use Rattle.std.specs.Prelude.{ℕ, suc, ◌+◌, ◌-◌, ◌≤◌, List, [], ◌∷◌, true, false, ltb, get_or, take, drop}
use Rattle.graph_rows.specs.Format.{has_kinds, old_form, kind_form}
use Rattle.graph_rows.specs.Admission.{Row}
use Rattle.graph_rows.specs.Tested.{form_in}
use Rattle.graph_table.specs.declared.sections.Form.{Form}
use Rattle.graph_table.specs.declared.sections.Form.TheVariants.{Old, Kinds}

-- the form of the file that a table stands for: one that shows kinds (02, K8), with or without
-- turns (02, K12), or the old one
unfoldable pub table_form : List ℕ → Form
table_form cells = elim (has_kinds (form_in cells)) [ true ↦ Kinds | false ↦ Old ]

-- The number that a table gets where a form is wanted, by the one that it has: one that shows kinds
-- already keeps its own, so that a file with turns keeps them (02, K9 and K12).
unfoldable pub form_number : Form → ℕ → ℕ
form_number Old number = old_form
form_number Kinds number = elim (has_kinds number) [ true ↦ number | false ↦ kind_form ]

-- the table in the wanted form with the same rows (02, K9); one without cells stays as it is
unfoldable pub with_form : Form → List ℕ → List ℕ
with_form form [] = []
with_form form (number ∷ rows) = form_number form number ∷ rows

-- how many cells the rows have that stand before the first one whose cell c is k or more
unfoldable pub leading : ℕ → ℕ → List ℕ → ℕ
leading c k [] = 0
leading c k (s ∷ []) = 0
leading c k (s ∷ v ∷ []) = 0
leading c k (s ∷ v ∷ w ∷ []) = 0
leading c k (s ∷ v ∷ w ∷ x ∷ []) = 0
leading c k (s ∷ v ∷ w ∷ x ∷ y ∷ []) = 0
leading c k (s ∷ v ∷ w ∷ x ∷ y ∷ z ∷ cells) =
    elim (ltb (get_or (s ∷ v ∷ w ∷ x ∷ y ∷ z ∷ cells) c 0) k) [ true ↦ 6 + leading c k cells | false ↦ 0 ]

-- the place of the first row, behind the form
unfoldable pub first_row : List ℕ → ℕ
first_row [] = 0
first_row (form ∷ cells) = 1

-- the place of the first row whose section number is k or more, or where the whole rows end
unfoldable pub start_of : ℕ → List ℕ → ℕ
start_of k [] = 0
start_of k (form ∷ cells) = suc (leading 0 k cells)

-- the cells of section k's rows, in a table whose section numbers ascend
unfoldable pub part_of : ℕ → List ℕ → List ℕ
part_of k cells = take (start_of (suc k) cells - start_of k cells) (drop (start_of k cells) cells)

-- the rows of such a part, each by its five values; cells too few for a row are none
unfoldable pub rows_of : List ℕ → List Row
rows_of [] = []
rows_of (s ∷ []) = []
rows_of (s ∷ a ∷ []) = []
rows_of (s ∷ a ∷ b ∷ []) = []
rows_of (s ∷ a ∷ b ∷ c ∷ []) = []
rows_of (s ∷ a ∷ b ∷ c ∷ d ∷ []) = []
rows_of (s ∷ a ∷ b ∷ c ∷ d ∷ e ∷ cells) = (a ∷ b ∷ c ∷ d ∷ e ∷ []) ∷ rows_of cells

-- the section numbers ascend, from `least` on
abbrev pub SectionsAscend : ℕ → List ℕ → Type 0
SectionsAscend least [] = Unit {0}
SectionsAscend least (s ∷ []) = Unit {0}
SectionsAscend least (s ∷ a ∷ []) = Unit {0}
SectionsAscend least (s ∷ a ∷ b ∷ []) = Unit {0}
SectionsAscend least (s ∷ a ∷ b ∷ c ∷ []) = Unit {0}
SectionsAscend least (s ∷ a ∷ b ∷ c ∷ d ∷ []) = Unit {0}
SectionsAscend least (s ∷ a ∷ b ∷ c ∷ d ∷ e ∷ cells) = (least ≤ s) × SectionsAscend s cells
