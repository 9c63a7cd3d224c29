-- The summary over the text (01, "The listing"): its figures are counts of what the rules say of
-- the queries. This is the statement; the value is in proofs/Totals.antt. Assumes nothing.
use Rattle.std.specs.Prelude.{ℕ, ◌≡◌, List, [], ◌∷◌}
use Rattle.scope_graph.specs.Graph.{Query}
use Rattle.scope_graph.specs.Rows.{language}
use Rattle.scope_graph.specs.Computed.{Found}
use Rattle.scope_graph.specs.Listing.{FoundIs}
use Rattle.text_field.specs.Outcome.{done}
use Rattle.graph_file.specs.File.{read_cells}
use Rattle.graph_rows.specs.Decode.{rules_of, graph_of, queries_of}
use Rattle.resolution.specs.Summary.{summary_by}
use Rattle.resolution.specs.Listing.{summary_for}

module _ (cells : List ℕ) where
  -- one for each query, in their sequence, and each is by the declarations of the query's entries
  abbrev pub FoundsAre : List (Query (language (rules_of cells))) → List Found → Type 0
  FoundsAre [] [] = Unit {0}
  FoundsAre [] (f ∷ fs) = ⊥
  FoundsAre (q ∷ qs) [] = ⊥
  FoundsAre (q ∷ qs) (f ∷ fs) = FoundIs (language (rules_of cells)) (graph_of cells) q f × FoundsAre qs fs

-- What is printed is the number of queries, how many of them are found `one`, `several` and `none`,
-- and the share (`summary_by` in specs/Summary). The share follows from the first two of these, by
-- `share_text` there; what number it is says `ShareNearest` in share/specs/Share.
pub record SummaryIs (text cells : List ℕ) : Type 0 where
  pub founds : List Found
  pub founds_are : FoundsAre cells (queries_of cells) founds
  pub printed : summary_for text ≡ done (summary_by founds)

-- every text that is read
abbrev pub SummaryRight : Type 0
SummaryRight = (text cells : List ℕ) → read_cells text ≡ done cells → SummaryIs text cells
