-- Demand 3 over the text (01, "The listing" and "Agreed between us"): what a listing shows is what
-- the rules say of its query. These are the statements; the value is in proofs/Demand.antt. Assumes
-- nothing.
use Rattle.std.specs.Prelude.{ℕ, ◌<◌, ◌≤◌, ◌≡◌, ◌↔◌, List, [], ◌∷◌, ◌++◌, length, drop}
use Rattle.std.proofs.Math.Option.{Option}
use Rattle.scope_graph.specs.Language.{◌∈◌, Language}
use Rattle.scope_graph.specs.Graph.{Query, OpenPair}
use Rattle.scope_graph.specs.Path.{PathRow, Entry}
use Rattle.scope_graph.specs.Completion.{Settled, Awaits}
use Rattle.scope_graph.specs.Rows.{language}
use Rattle.scope_graph.specs.Computed.{Found}
use Rattle.scope_graph.specs.Listing.{Pairwise, RowBefore, FoundIs}
use Rattle.text_field.specs.Outcome.{refused, done}
use Rattle.graph_file.specs.File.{read_cells}
use Rattle.text_field.specs.Answer.{answer, leaves}
use Rattle.graph_rows.specs.Decode.{rules_of, graph_of, opens_of, queries_of}
use Rattle.resolution.specs.Listing.{awaits_text, shown_text, listing_for}
use Rattle.board.specs.Queries.{query_at}

module _ (cells : List ℕ) where
  abbrev L : Language
  L = language (rules_of cells)

  -- A listing is right: its rows are exactly the entries, each once and in order; `found` is by
  -- their declarations (02, K2); `awaits` is the first decisive pair, and `-` is printed exactly if
  -- the query is settled in every completion.
  pub record Right (q : Query L) (text : List ℕ) : Type 0 where
    pub rows : List (PathRow L)
    pub found : Found
    pub awaited : Option (OpenPair L)
    pub printed : text ≡ shown_text cells q found awaited rows
    pub entries : (r : PathRow L) → (r ∈ rows) ↔ Entry L (graph_of cells) q r
    pub in_order : Pairwise (RowBefore L) rows
    -- no row is there twice; nor is a line of the text, since by `in_order` two rows differ in a
    -- label, a scope or a mark, and not in a turn alone
    pub once : Pairwise (λ r p. ¬ (r ≡ p)) rows
    pub found_is : FoundIs L (graph_of cells) q found
    pub awaits_is : Awaits L (graph_of cells) (opens_of cells) q awaited
    pub settled : (awaits_text cells awaited ≡ 45 ∷ []) ↔ Settled L (graph_of cells) (opens_of cells) q

-- what the host gets of a listing: it is written at the front of the buffer, or the buffer is too
-- short and unchanged
pub record Handed (text : List ℕ) (i : ℕ) (listing out : List ℕ) : Type 0 where
  pub room : length listing ≤ length out
      → (answer (listing_for text i) (length out) ≡ done (length listing)) × (leaves (listing_for text i) out ≡ listing ++ drop (length listing) out)
  pub no_room : length out < length listing → (answer (listing_for text i) (length out) ≡ refused 9) × (leaves (listing_for text i) out ≡ out)

-- every text that is read, every query of it, every buffer
abbrev pub Demand3 : Type 0
Demand3 = (text cells : List ℕ) → read_cells text ≡ done cells → (i : ℕ) → i < length (queries_of cells) → (out : List ℕ)
    → (listing : List ℕ) × Right cells (query_at cells i) listing × Handed text i listing out
