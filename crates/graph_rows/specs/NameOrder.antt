-- How declarations ascend, in the file's own words (document 01, "The gym file" and refusal 4; 02,
-- K8). These are the statements; their proofs are in proofs/. Assumes nothing: these are
-- definitions.
use Rattle.std.specs.Prelude.{ℕ, ◌<◌, ◌≡◌, List, true, ◌⊎◌, ◌↔◌}
use Rattle.text_field.specs.Bytes.{is_lower}
use Rattle.text_field.specs.Name.{name_text, is_name_cells, name_before}
use Rattle.scope_graph.specs.Language.{◌∈◌}
use Rattle.scope_graph.specs.Listing.{Pairwise}
use Rattle.graph_rows.specs.Format.{section_at, declaration_section}
use Rattle.graph_rows.specs.Admission.{Row, value, key_less}
use Rattle.graph_rows.specs.Decode.{rows_in}

-- a declaration's name, as it stands in the file
unfoldable pub name_in : Row → List ℕ
name_in row = name_text (value row 2) (value row 3)

-- by the name, bytewise with a prefix first; of one name by the mark
abbrev pub NamedBefore : Row → Row → Type 0
NamedBefore a b = (name_before (name_in a) (name_in b) ≡ true) ⊎ ((name_in a ≡ name_in b) × (value a 4 < value b 4))

-- by the scope; at one scope by the kind; of one kind there by name and mark
abbrev pub DeclaredBefore : Row → Row → Type 0
DeclaredBefore a b =
    (value a 0 < value b 0)
    ⊎ ((value a 0 ≡ value b 0) × ((value a 1 < value b 1) ⊎ ((value a 1 ≡ value b 1) × NamedBefore a b)))

-- The test that admits a declaration row after the one above it holds exactly then, for any two
-- rows whose name cells hold names; a row whose cells hold none is refused by 2.
abbrev pub DeclarationsAscend : Type 0
DeclarationsAscend = (a b : Row) → is_name_cells (value a 2) (value a 3) ≡ true → is_name_cells (value b 2) (value b 3) ≡ true
    → (key_less (section_at declaration_section).key a b ≡ true) ↔ DeclaredBefore a b

-- the declarations of a table: each has a kind and a name by the file's rules, and stands before
-- every later one
pub record DeclaredInOrder (cells : List ℕ) : Type 0 where
  pub kinds : (row : Row) → row ∈ rows_in declaration_section cells → is_lower (value row 1) ≡ true
  pub names : (row : Row) → row ∈ rows_in declaration_section cells → is_name_cells (value row 2) (value row 3) ≡ true
  pub ascend : Pairwise DeclaredBefore (rows_in declaration_section cells)
