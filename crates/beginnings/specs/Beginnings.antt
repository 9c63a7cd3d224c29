-- Lawful beginnings and their count (02, K11): what they are by the rules, how they are listed, and
-- the number that goes with a query. Assumes nothing: these are definitions.
use Rattle.std.specs.Prelude.{ℕ, ◌≡◌, Bool, true, false, not, ◌&&◌, ◌||◌, List, [], ◌∷◌, ◌++◌, leb, ltb, length}
use Rattle.std.proofs.Math.Option.{some}
use Rattle.scope_graph.specs.Language.{◌∈◌, stop, by, Language}
use Rattle.scope_graph.specs.Graph.{Edge, Graph, Query}
use Rattle.scope_graph.specs.Path.{Hop, IsPath, Leads, word, Reached, onward}
use Rattle.scope_graph.specs.Rows.{any_of, language}
use Rattle.scope_graph.specs.Computed.{keep, Node, leads_on, same_hop, nodes, reached_nodes}
use Rattle.text_field.specs.Outcome.{Outcome, done, and_then, refuse_if}
use Rattle.graph_file.specs.File.{read_cells}
use Rattle.graph_rows.specs.Decode.{rules_of, graph_of, queries_of}
use Rattle.board.specs.Queries.{query_at}

module _ (L : Language) where
  -- Somewhere along p, r has the same steps before and goes on by what is preferred to p's step
  -- there: by a preferred label or, at one label, a higher turn (K12), or by ending, where `$` is
  -- preferred.
  pub record StepCut (r p : List (Hop L)) : Type 0 where
    pub shared : List (Hop L)
    pub hop : Hop L
    pub p_rest : List (Hop L)
    pub r_rest : List (Hop L)
    pub p_is : p ≡ shared ++ (hop ∷ p_rest)
    pub r_is : r ≡ shared ++ r_rest
    pub preferred : L.prefers (onward L r_rest) (by hop.step) ≡ true

  -- A lawful beginning of a query, by its hops; the empty one is a path too. It goes along edges
  -- from the start and meets no scope twice; transitions alone lead on from its state to an
  -- accepting one; and no reached path cuts a step of it. No declaration is asked for.
  pub record Beginning (g : Graph L) (q : Query L) (p : List (Hop L)) : Type 0 where
    pub path : IsPath L g (record { start = q.start; hops = p })
    pub state : ℕ
    pub leads : Leads L 0 (word L p) state
    pub rest : List ℕ
    pub final : ℕ
    pub leads_on : Leads L state rest final
    pub accepted : L.accepts final ≡ true
    pub uncut : (r : List (Hop L)) → Reached L g q (record { start = q.start; hops = r }) → ¬ StepCut r p

  -- a label occurs in a transition
  abbrev pub Occurs : ℕ → Type 0
  Occurs l = (q : ℕ) × (r : ℕ) × (L.next q l ≡ some r)

  -- of the edges that leave a scope, the automaton knows the label of one at the most
  abbrev pub OneEdge : Graph L → Type 0
  OneEdge g = (e f : Edge L) → e ∈ g.edges → f ∈ g.edges → e.from ≡ f.from
      → Occurs (L.label e.step) → Occurs (L.label f.step) → e ≡ f

  -- StepCut, computed by recursion on the hops
  unfoldable pub step_cut : List (Hop L) → List (Hop L) → Bool
  step_cut r [] = false
  step_cut [] (k ∷ p) = L.prefers stop (by k.step)
  step_cut (h ∷ r) (k ∷ p) = L.prefers (by h.step) (by k.step) || same_hop L.same_step h k && step_cut r p

  module _ (g : Graph L) (q : Query L) where
    -- a reached path cuts a step of p
    unfoldable pub cut_before : List (Hop L) → Bool
    cut_before p = any_of (λ n. step_cut n.hops p) (reached_nodes L g q)

    -- the beginnings, as the places that they come to
    unfoldable pub beginnings : List (Node L)
    beginnings = keep (λ n. leads_on L L.states n.state && not (cut_before n.hops)) (nodes L g q)

-- no count is given above this
abbrev pub MOST : ℕ
MOST = 1000000000

unfoldable pub capped : ℕ → ℕ
capped n = elim (ltb n MOST) [ true ↦ n | false ↦ MOST ]

-- the number that goes with query i of a graph table
unfoldable pub followed_count : List ℕ → ℕ → ℕ
followed_count cells i = capped (length (beginnings (language (rules_of cells)) (graph_of cells) (query_at cells i)))

-- 7 if there is no query i
unfoldable pub count_of : List ℕ → ℕ → Outcome ℕ
count_of cells i = refuse_if (leb (length (queries_of cells)) i) 7 (done (followed_count cells i))

-- for a text: its refusals 1 to 6 first
unfoldable pub count_for : List ℕ → ℕ → Outcome ℕ
count_for text i = and_then (read_cells text) (λ cells. count_of cells i)
