-- What is proved of the count of lawful beginnings (02, K11): by the rules, and over a text. These
-- are the statements; their proofs are in proofs/Promises.antt. Assumes nothing: these are
-- definitions.
use Rattle.std.specs.Prelude.{ℕ, ◌≤◌, ◌<◌, ◌≡◌, ◌↔◌, List, map, length}
use Rattle.scope_graph.specs.Language.{◌∈◌, Language}
use Rattle.scope_graph.specs.Graph.{Edge, Graph, Query, OpenPair}
use Rattle.scope_graph.specs.Path.{HopOf, Hop}
use Rattle.scope_graph.specs.Turns.{Turned}
use Rattle.scope_graph.specs.Rows.{Transition, language}
use Rattle.scope_graph.specs.Computed.{Node}
use Rattle.scope_graph.specs.Listing.{Pairwise, Accepted}
use Rattle.text_field.specs.Outcome.{refused, done}
use Rattle.text_field.specs.Answer.{answer}
use Rattle.graph_file.specs.File.{read_cells}
use Rattle.graph_rows.specs.Decode.{rules_of, graph_of, queries_of, scopes_of}
use Rattle.board.specs.Example.{example_text}
use Rattle.board.specs.Queries.{query_at}
use Rattle.resolution.specs.Listing.{listing_for}
use Rattle.beginnings.specs.Beginnings.{Beginning, OneEdge, beginnings, capped, count_for}
use Rattle.beginnings.specs.Counted.{followed_leaves}

-- a count up to 999,999,999 is given as it is, and any above as 1,000,000,000
abbrev pub CappedIs : Type 0
CappedIs = (n : ℕ) → (n ≤ 999999999 → capped n ≡ n) × (999999999 < n → capped n ≡ 1000000000)

-- for every language with the laws and every accepted graph and query: the listed beginnings are
-- exactly the lawful ones
abbrev pub BeginningsAre : Type 1
BeginningsAre = (L : Language) (g : Graph L) (opens : List (OpenPair L)) (q : Query L) → Accepted L g opens q
    → (p : List (Hop L)) → (p ∈ map (λ (n : Node L). n.hops) (beginnings L g q)) ↔ Beginning L g q p

-- each is listed once
abbrev pub EachOnce : Type 1
EachOnce = (L : Language) (g : Graph L) (opens : List (OpenPair L)) (q : Query L) → Accepted L g opens q
    → Pairwise (λ (m n : Node L). ¬ (m.hops ≡ n.hops)) (beginnings L g q)

-- the bound that K11 asks for: if the automaton can leave each scope by one edge only, there are no
-- more beginnings than scopes
abbrev pub FewWhereOneEdge : Type 1
FewWhereOneEdge = (L : Language) (g : Graph L) (opens : List (OpenPair L)) (q : Query L) → Accepted L g opens q
    → OneEdge L g → length (beginnings L g q) ≤ g.scopes

-- in a table: of two edges of one scope whose labels both stand in transition rows, one is the
-- other
abbrev pub OneEdgeRow : List ℕ → Type 0
OneEdgeRow cells = (e f : Edge (language (rules_of cells))) → e ∈ (graph_of cells).edges → f ∈ (graph_of cells).edges → e.from ≡ f.from
    → (t u : Transition) → t ∈ (rules_of cells).transitions → u ∈ (rules_of cells).transitions
    → t.label ≡ e.step.label → u.label ≡ f.step.label → e ≡ f

-- the steps of hops in 01's sense, labels and scopes: at one scope, label and scope a file has one
-- row, so one turn
abbrev pub steps_of : List (HopOf Turned) → List (ℕ × ℕ)
steps_of p = map (λ (h : HopOf Turned). (h.step.label, h.to)) p

-- A number is right for a query: it is the capped number of a list that holds exactly the lawful
-- beginnings, each once, and not twice by turns alone; and it is at most the number of scopes where
-- each has one edge for the automaton.
pub record RightCount (cells : List ℕ) (q : Query (language (rules_of cells))) (n : ℕ) : Type 0 where
  pub paths : List (List (Hop (language (rules_of cells))))
  pub beginnings : (p : List (Hop (language (rules_of cells)))) → (p ∈ paths) ↔ Beginning (language (rules_of cells)) (graph_of cells) q p
  pub once : Pairwise (λ (p r : List (Hop (language (rules_of cells)))). ¬ (steps_of p ≡ steps_of r)) paths
  pub number : n ≡ capped (length paths)
  pub few : OneEdgeRow cells → n ≤ scopes_of cells

-- every text that is read and every query of it has its right number
abbrev pub CountedRight : Type 0
CountedRight = (text cells : List ℕ) → read_cells text ≡ done cells → (i : ℕ) → i < length (queries_of cells)
    → (n : ℕ) × (count_for text i ≡ done n) × RightCount cells (query_at cells i) n

-- else the refusal is the text's, or 7
abbrev pub CountRefused : Type 0
CountRefused = (text : List ℕ) (i : ℕ)
    → ((n : ℕ) → read_cells text ≡ refused n → count_for text i ≡ refused n)
    × ((cells : List ℕ) → read_cells text ≡ done cells → length (queries_of cells) ≤ i → count_for text i ≡ refused 7)

-- where a listing is written, the number lent for the count holds the count
abbrev pub FollowedIs : Type 0
FollowedIs = (text : List ℕ) (i room size lent : ℕ) → answer (listing_for text i) room ≡ done size
    → done (followed_leaves (answer (listing_for text i) room) (count_for text i) lent) ≡ count_for text i

-- document 01's example: its three queries follow 1, 2 and 2 beginnings
abbrev pub ExampleCounts : Type 0
ExampleCounts = (count_for example_text 0 ≡ done 1) × (count_for example_text 1 ≡ done 2) × (count_for example_text 2 ≡ done 2)

pub record Promises : Type 1 where
  pub capped_is : CappedIs
  pub beginnings_are : BeginningsAre
  pub each_once : EachOnce
  pub few : FewWhereOneEdge
  pub counted_right : CountedRight
  pub count_refused : CountRefused
  pub followed_is : FollowedIs
  pub example_counts : ExampleCounts
