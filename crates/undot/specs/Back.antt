-- A file's own drawing put back into it (02, K14, with K12 for turns). These are the statements;
-- their values are in proofs/Back.antt. Assumes nothing: these are definitions.
use Rattle.std.specs.Prelude.{ℕ, ◌<◌, ◌≡◌, false, ◌↔◌, List, [], ◌∷◌, map}
use Rattle.scope_graph.specs.Language.{◌∈◌}
use Rattle.text_field.specs.Outcome.{done}
use Rattle.graph_rows.specs.Format.{edge_section, section_at}
use Rattle.graph_rows.specs.Admission.{Row, value}
use Rattle.graph_rows.specs.Tested.{form_in}
use Rattle.graph_rows.specs.Decode.{rows_in}
use Rattle.graph_rows.specs.Formed.{other_turns}
use Rattle.graph_file.specs.File.{read_cells}
use Rattle.graph_change.specs.Promises.{Ascending}
use Rattle.dot.specs.Drawing.{dot_of}
use Rattle.undot.specs.Undrawn.{undot_of}

-- an edge row with turn 0
abbrev pub at_zero : Row → Row
at_zero row = value row 0 ∷ value row 1 ∷ value row 2 ∷ 0 ∷ 0 ∷ []

-- The text is a file like that of the table, with turn 0 for every edge: its edge rows are the
-- table's at turn 0, ascending; its form and all other rows are the table's.
pub record AtZero (cells out : List ℕ) : Type 0 where
  pub after : List ℕ
  pub read : read_cells out ≡ done after
  pub form : form_in after ≡ form_in cells
  pub others : (k : ℕ) → k < 9 → ¬ (k ≡ edge_section) → rows_in k after ≡ rows_in k cells
  pub has : (row : Row) → (row ∈ rows_in edge_section after) ↔ (row ∈ map at_zero (rows_in edge_section cells))
  pub ascends : Ascending (section_at edge_section).key (rows_in edge_section after)

-- Every file that is read takes in its own drawing, and comes out with turn 0 for every edge.
abbrev pub TakesOwn : Type 0
TakesOwn = (text cells dot : List ℕ) → read_cells text ≡ done cells → dot_of text ≡ done dot
    → (out : List ℕ) × (undot_of text dot ≡ done out) × AtZero cells out

-- So a file whose turns are all 0 comes out as it was, byte for byte.
abbrev pub SameBytes : Type 0
SameBytes = (text cells dot : List ℕ) → read_cells text ≡ done cells → other_turns cells ≡ false → dot_of text ≡ done dot
    → undot_of text dot ≡ done text
