-- The graph: scopes, edges, declarations, open pairs, and a query. Assumes nothing: these are
-- definitions.
use Rattle.std.specs.Prelude.{ℕ, ◌<◌, ◌≡◌, List}
use Rattle.scope_graph.specs.Language.{◌∈◌, End, stop, by, Language}

module _ (L : Language) where
  -- 01, "The gym file", the rows `from label to`; with a turn, 02, K12
  pub record Edge : Type 0 where
    pub from : ℕ
    pub step : L.Step
    pub to : ℕ

  -- 01, "The gym file", the rows `at name mark`; with a kind, 02, K8
  pub record Declaration : Type 0 where
    pub at : ℕ
    pub name : L.Name
    pub mark : ℕ

  -- Scopes are numbered from 0. A mark is any whole number here, since a completion's may be.
  pub record Graph : Type 0 where
    pub scopes : ℕ
    pub edges : List (Edge)
    pub declarations : List (Declaration)

  -- The rows speak of scopes of the graph and of listed labels (01, refusal 3), edges carry what
  -- they may, and edges between the same two scopes may stand together.
  pub record InRange (g : Graph) : Type 0 where
    pub from_scope : (e : Edge) → e ∈ g.edges → e.from < g.scopes
    pub to_scope : (e : Edge) → e ∈ g.edges → e.to < g.scopes
    pub listed : (e : Edge) → e ∈ g.edges → L.label e.step < L.labels
    pub carried : (e : Edge) → e ∈ g.edges → L.Carried e.step
    pub at_scope : (d : Declaration) → d ∈ g.declarations → d.at < g.scopes
    pub together : (e f : Edge) → e ∈ g.edges → f ∈ g.edges → e.from ≡ f.from → e.to ≡ f.to → L.Together e.step f.step

  -- 01, "The gym file", the rows `start seek`; with a kind, 02, K8
  pub record Query : Type 0 where
    pub start : ℕ
    pub name : L.Name

  -- 01, "The gym file", the rows `at open`: document 01 calls it an open pair or open place. Its
  -- end is `$` or a label's number.
  pub record OpenPair : Type 0 where
    pub at : ℕ
    pub end : End ℕ

  -- What may still come at an open place: a declaration at `$`, and at a label an edge with a step
  -- of that label that an edge may carry.
  abbrev pub Admits : End ℕ → End L.Step → Type 0
  Admits stop stop = Unit {0}
  Admits stop (by t) = ⊥
  Admits (by l) stop = ⊥
  Admits (by l) (by t) = (L.label t ≡ l) × L.Carried t
