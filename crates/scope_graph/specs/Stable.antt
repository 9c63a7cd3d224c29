-- A graph that grows (02, K10). Rows are added where a pair is open, and open pairs are closed; what
-- a query saw when it was settled, it sees ever after. The statements are at the end; their proof is
-- in proofs/Stable.antt. Assumes nothing: these are definitions.
use Rattle.std.specs.Prelude.{◌<◌, ◌≡◌, ◌↔◌, ◌⊎◌, List, [], ◌∷◌}
use Rattle.std.proofs.Math.Option.{none}
use Rattle.scope_graph.specs.Language.{◌∈◌, stop, by, Language, Laws}
use Rattle.scope_graph.specs.Graph.{Edge, Declaration, Graph, InRange, Query, OpenPair}
use Rattle.scope_graph.specs.Completion.{Completion, SameEntries, PairBefore, Settled}
use Rattle.scope_graph.specs.Computed.{entries, found, awaits}
use Rattle.scope_graph.specs.Listing.{Pairwise, EdgeBefore, MarkBefore, Accepted}

-- every element of the first list is in the second
abbrev pub Within : {A : Type 0} → List A → List A → Type 0
Within {A} xs ys = (x : A) → x ∈ xs → x ∈ ys

-- The second list has one element more than the first, or all but one of its elements. Where that
-- element stands does not matter, so a row may be put at the end or at its place in a file.
abbrev pub OneMore : {A : Type 0} → A → List A → List A → Type 0
OneMore {A} x xs ys = (y : A) → (y ∈ ys) ↔ ((y ≡ x) ⊎ (y ∈ xs))

abbrev pub OneLess : {A : Type 0} → A → List A → List A → Type 0
OneLess {A} x xs ys = (y : A) → (y ∈ ys) ↔ ((¬ (y ≡ x)) × (y ∈ xs))

module _ (L : Language) where
  -- the graph and its open pairs at one moment of a replay
  pub record Snapshot : Type 0 where
    pub graph : Graph L
    pub opens : List (OpenPair L)

  -- 02, K10: the log's lines `edge`, `decl` and `close`; a `seek` changes nothing
  pub data Act : Type 0 where
    add_edge : Edge L → Act
    add_declaration : Declaration L → Act
    close : OpenPair L → Act

  -- Each of the three takes a snapshot s to a snapshot t if refusal 16 lets it pass. An edge needs
  -- its pair open, its values in range, and that it may stand beside the edges that join the same
  -- two scopes.
  pub record EdgeAdded (e : Edge L) (s t : Snapshot) : Type 0 where
    pub is_open : record { at = e.from; end = by (L.label e.step) } ∈ s.opens
    pub from_scope : e.from < s.graph.scopes
    pub to_scope : e.to < s.graph.scopes
    pub listed : L.label e.step < L.labels
    pub carried : L.Carried e.step
    pub beside : (f : Edge L) → f ∈ s.graph.edges → e.from ≡ f.from → e.to ≡ f.to
        → L.Together e.step f.step × L.Together f.step e.step
    pub scopes : t.graph.scopes ≡ s.graph.scopes
    pub edges : OneMore e s.graph.edges t.graph.edges
    pub declarations : t.graph.declarations ≡ s.graph.declarations
    pub opens : t.opens ≡ s.opens

  -- a declaration needs `$` open at its scope
  pub record DeclarationAdded (d : Declaration L) (s t : Snapshot) : Type 0 where
    pub is_open : record { at = d.at; end = stop } ∈ s.opens
    pub at_scope : d.at < s.graph.scopes
    pub scopes : t.graph.scopes ≡ s.graph.scopes
    pub edges : t.graph.edges ≡ s.graph.edges
    pub declarations : OneMore d s.graph.declarations t.graph.declarations
    pub opens : t.opens ≡ s.opens

  -- only an open pair can be closed
  pub record PairClosed (o : OpenPair L) (s t : Snapshot) : Type 0 where
    pub is_open : o ∈ s.opens
    pub graph : t.graph ≡ s.graph
    pub opens : OneLess o s.opens t.opens

  abbrev pub Applied : Act → Snapshot → Snapshot → Type 0
  Applied (add_edge e) s t = EdgeAdded e s t
  Applied (add_declaration d) s t = DeclarationAdded d s t
  Applied (close o) s t = PairClosed o s t

  -- the acts of a log, one after the other
  abbrev pub Replayed : List Act → Snapshot → Snapshot → Type 0
  Replayed [] s t = s ≡ t
  Replayed (a ∷ acts) s t = (m : Snapshot) × Applied a s m × Replayed acts m t

  -- t's graph completes s's, and no pair is open in t that was not open in s
  abbrev pub Grows : Snapshot → Snapshot → Type 0
  Grows s t = Completion L s.opens s.graph t.graph × Within t.opens s.opens

  -- the query's listing is the same in both snapshots, and says `-` in both
  pub record SameListing (q : Query L) (s t : Snapshot) : Type 0 where
    pub rows : entries L s.graph q ≡ entries L t.graph q
    pub word : found L s.graph q ≡ found L t.graph q
    pub settled_first : awaits L s.graph q s.opens ≡ none
    pub settled_then : awaits L t.graph q t.opens ≡ none

  pub record StablePromises : Type 0 where
    -- a completion of a completion is a completion, if the second opened no further pair
    pub completion_then : (opens fewer : List (OpenPair L)) → Within fewer opens → (g h k : Graph L)
        → Completion L opens g h → Completion L fewer h k → Completion L opens g k
    pub grows_on : (s t u : Snapshot) → Grows s t → Grows t u → Grows s u
    -- a settled query stays settled and keeps its entries
    pub stays : (q : Query L) (s t : Snapshot) → Settled L s.graph s.opens q → Grows s t
        → SameEntries L q s.graph t.graph × Settled L t.graph t.opens q
    -- so its listing keeps its rows in their sequence, its `found` and its `-`
    pub same_listing : (q : Query L) (s t : Snapshot) → Accepted L s.graph s.opens q → Accepted L t.graph t.opens q
        → awaits L s.graph q s.opens ≡ none → Grows s t → SameListing q s t
    -- an act makes the graph grow, and so do any number of acts
    pub act_grows : (a : Act) (s t : Snapshot) → InRange L s.graph → Applied a s t → Grows s t
    pub replay_grows : (acts : List Act) (s t : Snapshot) → InRange L s.graph → Replayed acts s t → Grows s t
    -- what an accepted graph grows to is accepted if its rows ascend
    pub accepted_then : (q : Query L) (s t : Snapshot) → Accepted L s.graph s.opens q → Grows s t
        → Pairwise (EdgeBefore L) t.graph.edges → Pairwise (MarkBefore L) t.graph.declarations → Pairwise (PairBefore L) t.opens
        → Accepted L t.graph t.opens q
    -- K10's promise: a listing that says `-` is the same again after any acts
    pub replay_same : (acts : List Act) (q : Query L) (s t : Snapshot) → Accepted L s.graph s.opens q
        → Accepted L t.graph t.opens q → Replayed acts s t → awaits L s.graph q s.opens ≡ none → SameListing q s t

-- for every language with the laws
abbrev pub Stable : Type 1
Stable = (L : Language) → Laws L → StablePromises L
