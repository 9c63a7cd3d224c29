-- What is proved of the readers of a declaration (02, K5), over a text. These are the statements;
-- their proofs are in proofs/Promises.antt. Assumes nothing: these are definitions.
use Rattle.std.specs.Prelude.{ℕ, ◌≤◌, ◌<◌, ◌≡◌, ◌↔◌, List, [], ◌∷◌, length}
use Rattle.scope_graph.specs.Language.{◌∈◌}
use Rattle.scope_graph.specs.Graph.{Declaration}
use Rattle.scope_graph.specs.Path.{Distinct}
use Rattle.scope_graph.specs.Rows.{language}
use Rattle.scope_graph.specs.Listing.{Pairwise}
use Rattle.scope_graph.specs.Readers.{Reader}
use Rattle.text_field.specs.Outcome.{refused, done}
use Rattle.graph_file.specs.File.{read_cells}
use Rattle.graph_rows.specs.Decode.{rules_of, graph_of}
use Rattle.board.specs.Example.{example_text}
use Rattle.readers.specs.Readers.{readers_text, declaration_at, readers_for}

-- The scopes are the readers of the declaration: those that have an entry for it, each once and
-- ascending, and no other. A `Reader` goes by the rules: by kind and name, and with turns.
pub record ReadersAre (cells : List ℕ) (d : Declaration (language (rules_of cells))) (scopes : List ℕ) : Type 0 where
  pub are : (s : ℕ) → (s ∈ scopes) ↔ Reader (language (rules_of cells)) (graph_of cells) d s
  pub ascend : Pairwise ◌<◌ scopes
  pub once : Distinct scopes

-- of a text that is read and a row of its declarations, the readers are put out, in at most 195
-- bytes
abbrev pub ReadersListed : Type 0
ReadersListed = (text cells : List ℕ) → read_cells text ≡ done cells → (i : ℕ) → i < length (graph_of cells).declarations
    → (scopes : List ℕ) × (readers_for text i ≡ done (readers_text scopes)) × ReadersAre cells (declaration_at cells i) scopes
    × (length (readers_text scopes) ≤ 195)

-- a text's own refusal comes first, and of a text that is read 11 refuses exactly a place past the
-- rows
abbrev pub ReadersRefused : Type 0
ReadersRefused = (text : List ℕ) (i : ℕ)
    → ((n : ℕ) → read_cells text ≡ refused n → readers_for text i ≡ refused n)
    × ((cells : List ℕ) → read_cells text ≡ done cells → (readers_for text i ≡ refused 11) ↔ (length (graph_of cells).declarations ≤ i))

-- Document 01's example. The site's `hours` is read from the site, the wall and lane 3, since lane 2
-- imports its own; the wall's `service` from the wall and lane 3; lane 2's from lane 2 alone; the
-- profile's `hours` from lane 2 and the profile.
abbrev pub ExampleReaders : Type 0
ExampleReaders =
    (readers_for example_text 0 ≡ done (readers_text (0 ∷ 1 ∷ 3 ∷ [])))
    × (readers_for example_text 1 ≡ done (readers_text (1 ∷ 3 ∷ [])))
    × (readers_for example_text 2 ≡ done (readers_text (2 ∷ [])))
    × (readers_for example_text 3 ≡ done (readers_text (2 ∷ 4 ∷ [])))

pub record Promises : Type 0 where
  pub listed : ReadersListed
  pub refusals : ReadersRefused
  pub example : ExampleReaders
