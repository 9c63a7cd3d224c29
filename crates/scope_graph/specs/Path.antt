-- Paths and what a query sees (01, "Paths"). Assumes nothing: these are definitions.
use Rattle.std.specs.Prelude.{ℕ, ◌<◌, ◌≡◌, true, List, [], ◌∷◌, ◌++◌}
use Rattle.std.proofs.Math.Option.{Option, some, none}
use Rattle.scope_graph.specs.Language.{◌∈◌, End, stop, by, Language}
use Rattle.scope_graph.specs.Graph.{Declaration, Graph, Query}

-- no element twice
abbrev pub Distinct : List ℕ → Type 0
Distinct [] = Unit {0}
Distinct (x ∷ xs) = ¬ (x ∈ xs) × Distinct xs

-- one step of a path in 01's sense: what its edge carries, and the scope that it comes to. Over the
-- type of what is carried, so that the search's tables share it.
pub record HopOf (A : Type 0) : Type 0 where
  pub step : A
  pub to : ℕ

abbrev pub Hop : Language → Type 0
Hop L = HopOf L.Step

-- the last scope of a path, by its start and its hops
abbrev pub last_from : {A : Type 0} → ℕ → List (HopOf A) → ℕ
last_from s [] = s
last_from s (h ∷ hs) = last_from h.to hs

module _ (L : Language) where
  -- any start and hops, whether or not they are a path of a graph: IsPath says that
  pub record Path : Type 0 where
    pub start : ℕ
    pub hops : List (Hop L)

  -- 01, "Paths", a path row: a path with a mark
  pub record PathRow : Type 0 where
    pub mark : ℕ
    pub path : Path

  -- the scopes that hops come to
  abbrev pub tos : List (Hop L) → List ℕ
  tos [] = []
  tos (h ∷ hs) = h.to ∷ tos hs

  -- each hop goes along an edge of the graph
  abbrev pub Along : Graph L → ℕ → List (Hop L) → Type 0
  Along g s [] = Unit {0}
  Along g s (h ∷ hs) = (record { from = s; step = h.step; to = h.to } ∈ g.edges) × Along g h.to hs

  -- a path of the graph; a self_edge would meet its scope twice, so it is on none
  pub record IsPath (g : Graph L) (p : Path) : Type 0 where
    pub starts : p.start < g.scopes
    pub along : Along g p.start p.hops
    pub simple : Distinct (p.start ∷ tos p.hops)

  -- a word of label numbers leads the automaton from one state to another
  abbrev pub Leads : ℕ → List ℕ → ℕ → Type 0
  Leads q [] r = q ≡ r
  Leads q (l ∷ ls) r = (s : ℕ) × (L.next q l ≡ some s) × Leads s ls r

  -- the labels of the hops
  abbrev pub word : List (Hop L) → List ℕ
  word [] = []
  word (h ∷ hs) = L.label h.step ∷ word hs

  -- 01's term *lawful*
  pub record Lawful (p : Path) : Type 0 where
    pub final : ℕ
    pub leads : Leads 0 (word p.hops) final
    pub accepted : L.accepts final ≡ true

  -- the scope declares the name with the mark
  abbrev pub Declares : Graph L → ℕ → L.Name → ℕ → Type 0
  Declares g s x m = record { at = s; name = x; mark = m } ∈ g.declarations

  -- 01's term *reached*
  pub record Reached (g : Graph L) (q : Query L) (p : Path) : Type 0 where
    pub from_start : p.start ≡ q.start
    pub path : IsPath g p
    pub lawful : Lawful p
    pub mark : ℕ
    pub declared : Declares g (last_from p.start p.hops) q.name mark

  -- the declaration that a row of a query speaks of (02, K2): the scope where its path ends, the
  -- name sought, its mark
  abbrev pub row_declaration : Query L → PathRow → Declaration L
  row_declaration q r = record { at = last_from r.path.start r.path.hops; name = q.name; mark = r.mark }

  -- how the hops go on, and their first hop
  abbrev pub onward : List (Hop L) → End L.Step
  onward [] = stop
  onward (h ∷ hs) = by h.step

  abbrev pub first : List (Hop L) → Option (Hop L)
  first [] = none
  first (h ∷ hs) = some h

  -- 01's term *more specific*: a shared first part, and at the first difference a preferred end
  pub record MoreSpecific (p r : Path) : Type 0 where
    pub same_start : p.start ≡ r.start
    pub shared : List (Hop L)
    pub p_rest : List (Hop L)
    pub r_rest : List (Hop L)
    pub p_is : p.hops ≡ shared ++ p_rest
    pub r_is : r.hops ≡ shared ++ r_rest
    pub differ : ¬ (first p_rest ≡ first r_rest)
    pub preferred : L.prefers (onward p_rest) (onward r_rest) ≡ true

  module _ (g : Graph L) (q : Query L) where
    -- 01's terms *visible*, *shadowed*, *unreached*
    pub record Visible (p : Path) : Type 0 where
      pub reached : Reached g q p
      pub unshadowed : (r : Path) → Reached g q r → ¬ MoreSpecific r p

    pub record Shadowed (p : Path) : Type 0 where
      pub reached : Reached g q p
      pub shadowed : ¬ ((r : Path) → Reached g q r → ¬ MoreSpecific r p)

    abbrev pub Unreached : Path → Type 0
    Unreached p = ¬ Reached g q p

    -- the row's mark is that of a matching declaration at the path's last scope
    abbrev pub MarkDeclared : PathRow → Type 0
    MarkDeclared r = row_declaration q r ∈ g.declarations

    -- 01's term *entry*
    pub record Entry (r : PathRow) : Type 0 where
      pub visible : Visible r.path
      pub declared : MarkDeclared r
