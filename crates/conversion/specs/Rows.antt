-- How the code looks for what the old form cannot show: row by row over the whole table. Assumes
-- nothing: these are definitions.
use Rattle.std.specs.Prelude.{ℕ, List, Bool, true, false, ◌&&◌, ◌||◌}
use Rattle.graph_rows.specs.Format.{edge_section, declaration_section, query_section}
use Rattle.graph_rows.specs.Admission.{row_of}
use Rattle.graph_rows.specs.Way.{starts_with}
use Rattle.graph_rows.specs.Formed.{other_kind, other_turn}
use Rattle.graph_table.specs.declared.sections.Form.{Form}
use Rattle.graph_table.specs.declared.sections.Form.TheVariants.{Old, Kinds}
use Rattle.conversion.specs.Conversion.{unshown}

-- Is the row at the front of the cells a declaration's or a query's, of another kind than `v`?
unfoldable pub kind_here : List ℕ → Bool
kind_here cells = (starts_with declaration_section cells || starts_with query_section cells) && other_kind (row_of cells)

-- And is it one that the old form cannot show? An edge's is by its turn, any other by its kind.
unfoldable pub other_here : List ℕ → Bool
other_here cells = elim (starts_with edge_section cells) [ true ↦ other_turn (row_of cells) | false ↦ kind_here cells ]

-- Has the table something that the form cannot show?
unfoldable pub unfit : Form → List ℕ → Bool
unfit Old cells = unshown cells
unfit Kinds cells = false
