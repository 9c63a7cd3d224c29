-- That the name sought is the query's name, and where it stands (document 01, "The gym file", its
-- end): what specs/NameSought finds by counting lines from the text's end is what the table says.
-- These are the statements; their proofs are in proofs/. Assumes nothing: these are definitions.
use Rattle.std.specs.Prelude.{ℕ, suc, ◌+◌, ◌-◌, ◌≤◌, ◌<◌, ◌≡◌, Bool, true, false, List, [], ◌∷◌, ◌++◌, length, get_or, take, drop}
use Rattle.text_field.specs.Number.{number_text}
use Rattle.text_field.specs.Name.{is_name, name_text}
use Rattle.scope_graph.specs.Rows.{language}
use Rattle.scope_graph.specs.Graph.{Query}
use Rattle.graph_rows.specs.Format.{shape_at, has_kinds, query_section}
use Rattle.text_field.specs.Outcome.{refused, done}
use Rattle.graph_rows.specs.Tested.{form_in}
use Rattle.graph_file.specs.File.{read_cells}
use Rattle.graph_rows.specs.Decode.{rules_of, queries_of}
use Rattle.graph_file.specs.NameSought.{name_sought, place_sought}

-- a kind and the space behind it, where kinds are shown
unfoldable pub shown_kind : Bool → ℕ → List ℕ
shown_kind true k = k ∷ 32 ∷ []
shown_kind false k = []

module _ (cells : List ℕ) where
  -- a query of the table
  abbrev pub TableQuery : Type 0
  TableQuery = Query (language (rules_of cells))

  -- the text of the name that a query seeks
  unfoldable pub seek_text : TableQuery → List ℕ
  seek_text query = name_text query.name.high query.name.low

  -- in a table with kinds, the kind and a space before the name
  unfoldable pub kind_text : TableQuery → List ℕ
  kind_text query = shown_kind (has_kinds (form_in cells)) query.name.kind

  -- the lines of queries: each one's scope, a space, the kind if it is shown, the name, LF
  unfoldable pub query_lines : List TableQuery → List ℕ
  query_lines [] = []
  query_lines (query ∷ rest) = number_text query.start ++ (32 ∷ (kind_text query ++ (seek_text query ++ (10 ∷ query_lines rest))))

  -- All before query q's line, where the sections above the queries have the text given: then come
  -- the names line and the lines of the queries before q.
  unfoldable pub before_line : List ℕ → ℕ → List ℕ
  before_line above q = above ++ ((shape_at (form_in cells) query_section).names ++ query_lines (take q (queries_of cells)))

  -- Query q is the one given: its line stands behind those of the queries before it, the later
  -- ones' lines end the text, and what is sought is the name in it, behind the scope's number, a
  -- space and the kind if it is shown. It is a name by the file's rules, so never the empty part.
  pub record SoughtIn (text : List ℕ) (q : ℕ) (query : TableQuery) : Type 0 where
    pub above : List ℕ
    pub lines : text ≡ before_line above q ++ query_lines (query ∷ drop (suc q) (queries_of cells))
    pub name : name_sought text q ≡ seek_text query
    pub is_name : is_name (seek_text query) ≡ true
    pub from : (place_sought text q).from ≡ length (before_line above q) + length (number_text query.start) + 1 + length (kind_text query)
    pub to : (place_sought text q).to ≡ (place_sought text q).from + length (seek_text query)

-- For a text that is read as a table, and q below the number of the table's queries, the name
-- sought is query q's. The default d is not read.
abbrev pub SoughtRight : Type 0
SoughtRight = (text cells : List ℕ) → read_cells text ≡ done cells → (q : ℕ) → q < length (queries_of cells) → (d : TableQuery cells)
    → SoughtIn cells text q (get_or (queries_of cells) q d)

-- nothing is sought: the empty part, at the text's end
pub record NothingSought (text : List ℕ) (q : ℕ) : Type 0 where
  pub name : name_sought text q ≡ []
  pub from : (place_sought text q).from ≡ length text
  pub to : (place_sought text q).to ≡ length text

-- So it is for every q where the text is refused, and where the table read has no query q.
pub record SoughtNone : Type 0 where
  pub file_refused : (text : List ℕ) (n : ℕ) → read_cells text ≡ refused n → (q : ℕ) → NothingSought text q
  pub query_absent : (text cells : List ℕ) → read_cells text ≡ done cells → (q : ℕ) → length (queries_of cells) ≤ q
      → NothingSought text q

-- For any text and q, the part of the text at the place sought is the name sought, and the place is
-- within the text.
abbrev pub SoughtThere : Type 0
SoughtThere = (text : List ℕ) (q : ℕ)
    → (take ((place_sought text q).to - (place_sought text q).from) (drop (place_sought text q).from text) ≡ name_sought text q)
    × (((place_sought text q).from ≤ (place_sought text q).to) × ((place_sought text q).to ≤ length text))
