-- The same graph under other scope numbers (02, K13): what renumbering does to all that names a
-- scope, and that a query sees the same. The statements are at the end; their proof is in
-- proofs/Renamed.antt. Assumes nothing: these are definitions.
use Rattle.std.specs.Prelude.{ℕ, suc, ◌<◌, ◌≡◌, true, false, ◌↔◌, List, [], ◌∷◌, map, eqb, length, get_or}
use Rattle.std.proofs.Math.Option.{none}
use Rattle.scope_graph.specs.Language.{◌∈◌, Language, Laws}
use Rattle.scope_graph.specs.Graph.{Edge, Declaration, Graph, InRange, Query, OpenPair}
use Rattle.scope_graph.specs.Path.{Distinct, Hop, Path, PathRow, tos, Entry}
use Rattle.scope_graph.specs.Completion.{PairBefore, Settled}
use Rattle.scope_graph.specs.Computed.{found, awaits}
use Rattle.scope_graph.specs.Listing.{Pairwise, EdgeBefore, MarkBefore, Accepted}

-- f takes each number below n to its new one, and b takes that back. Of numbers from n on nothing is
-- said.
pub record Renumbers (n : ℕ) (f b : ℕ → ℕ) : Type 0 where
  pub new_below : (x : ℕ) → x < n → f x < n
  pub old_below : (x : ℕ) → x < n → b x < n
  pub back : (x : ℕ) → x < n → b (f x) ≡ x
  pub forth : (x : ℕ) → x < n → f (b x) ≡ x

-- where a number first stands in a list
unfoldable pub place_of : ℕ → List ℕ → ℕ
place_of x [] = 0
place_of x (y ∷ ys) = elim (eqb x y) [ true ↦ 0 | false ↦ suc (place_of x ys) ]

-- K13's list `was` has at each new number the old one
abbrev pub new_number : List ℕ → ℕ → ℕ
new_number was x = place_of x was

abbrev pub old_number : List ℕ → ℕ → ℕ
old_number was i = get_or was i 0

-- the lists have the same elements, whatever their sequence
abbrev pub SameElements : {A : Type 0} → List A → List A → Type 0
SameElements {A} xs ys = (x : A) → (x ∈ xs) ↔ (x ∈ ys)

module _ (L : Language) where
  -- everything that names scopes, with f's numbers in place of its own
  abbrev pub edge_under : (ℕ → ℕ) → Edge L → Edge L
  edge_under f e = record { from = f e.from; step = e.step; to = f e.to }

  abbrev pub declaration_under : (ℕ → ℕ) → Declaration L → Declaration L
  declaration_under f d = record { at = f d.at; name = d.name; mark = d.mark }

  abbrev pub open_under : (ℕ → ℕ) → OpenPair L → OpenPair L
  open_under f o = record { at = f o.at; end = o.end }

  abbrev pub query_under : (ℕ → ℕ) → Query L → Query L
  query_under f q = record { start = f q.start; name = q.name }

  abbrev pub graph_under : (ℕ → ℕ) → Graph L → Graph L
  graph_under f g =
      record { scopes = g.scopes; edges = map (edge_under f) g.edges; declarations = map (declaration_under f) g.declarations }

  abbrev pub hop_under : (ℕ → ℕ) → Hop L → Hop L
  hop_under f h = record { step = h.step; to = f h.to }

  abbrev pub path_under : (ℕ → ℕ) → Path L → Path L
  path_under f p = record { start = f p.start; hops = map (hop_under f) p.hops }

  abbrev pub row_under : (ℕ → ℕ) → PathRow L → PathRow L
  row_under f r = record { mark = r.mark; path = path_under f r.path }

  -- k has g's rows under f's numbers. A file sorts its rows anew, so their sequence may differ.
  pub record Renamed (f : ℕ → ℕ) (g k : Graph L) : Type 0 where
    pub scopes : k.scopes ≡ g.scopes
    pub edges : SameElements k.edges (map (edge_under f) g.edges)
    pub declarations : SameElements k.declarations (map (declaration_under f) g.declarations)

  -- every scope on the row's path is below n
  abbrev pub RowBelow : ℕ → PathRow L → Type 0
  RowBelow n r = (r.path.start < n) × ((t : ℕ) → t ∈ tos L r.path.hops → t < n)

  -- Of a graph g with its open pairs and a query, and the graph k with the pairs `pairs`, which are
  -- g and `opens` renumbered.
  module _ (f b : ℕ → ℕ) (g k : Graph L) (opens pairs : List (OpenPair L)) (q : Query L) where
    pub record RenamedPromises : Type 0 where
      -- the renumbered query has the renumbered entries, and no other
      pub entry_forth : (r : PathRow L) → Entry L g q r → Entry L k (query_under f q) (row_under f r)
      pub entry_back : (r : PathRow L) → Entry L k (query_under f q) r → Entry L g q (row_under b r)
      pub entry : (r : PathRow L) → RowBelow g.scopes r → Entry L g q r ↔ Entry L k (query_under f q) (row_under f r)
      pub entry_below : (r : PathRow L) → Entry L g q r → RowBelow g.scopes r
      pub row_back : (r : PathRow L) → RowBelow g.scopes r → row_under b (row_under f r) ≡ r
      pub row_forth : (r : PathRow L) → RowBelow g.scopes r → row_under f (row_under b r) ≡ r
      -- it has the same `found`, and is settled exactly if the first one is
      pub same_found : found L k (query_under f q) ≡ found L g q
      pub same_settled : Settled L g opens q ↔ Settled L k pairs (query_under f q)
      pub same_awaits : Accepted L g opens q → Accepted L k pairs (query_under f q)
          → (awaits L g q opens ≡ none) ↔ (awaits L k (query_under f q) pairs ≡ none)
      -- k is in range, and accepted if its rows ascend
      pub in_range : InRange L k
      pub starts : (query_under f q).start < k.scopes
      pub accepted : Pairwise (EdgeBefore L) k.edges → Pairwise (MarkBefore L) k.declarations → Pairwise (PairBefore L) pairs
          → Accepted L k pairs (query_under f q)
      -- the old numbers lead from k back to g: to its rows, and where k's rows kept their sequence to
      -- the very lists
      pub graph_back : Renamed b k g
      pub opens_back : SameElements opens (map (open_under b) pairs)
      pub query_back : query_under b (query_under f q) ≡ q
      pub rows_back : graph_under b (graph_under f g) ≡ g

-- for every language with the laws, every graph in range, open pairs at its scopes and a query from
-- one of them; and every list that has each number below n once renumbers them
pub record RenamedRight : Type 1 where
  pub renamed : (L : Language) (f b : ℕ → ℕ) (g k : Graph L) (opens pairs : List (OpenPair L)) (q : Query L)
      → Laws L → InRange L g → q.start < g.scopes → ((o : OpenPair L) → o ∈ opens → o.at < g.scopes)
      → Renumbers g.scopes f b → Renamed L f g k → SameElements pairs (map (open_under L f) opens)
      → RenamedPromises L f b g k opens pairs q
  pub by_list : (n : ℕ) (was : List ℕ) → length was ≡ n → Distinct was → ((x : ℕ) → x ∈ was → x < n)
      → Renumbers n (new_number was) (old_number was)
