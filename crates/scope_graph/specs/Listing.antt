-- The order of a file's rows and of a listing's (01, "The gym file" and "The listing"), and what
-- `found` says. Assumes nothing: these are definitions.
use Rattle.std.specs.Prelude.{◌<◌, ◌≡◌, ◌⊎◌, List, [], ◌∷◌, true}
use Rattle.scope_graph.specs.Language.{◌∈◌, by, Language, Laws}
use Rattle.scope_graph.specs.Graph.{Edge, Declaration, Graph, InRange, Query, OpenPair}
use Rattle.scope_graph.specs.Path.{Hop, PathRow, row_declaration, Entry}
use Rattle.scope_graph.specs.Completion.{PairBefore}
use Rattle.scope_graph.specs.Computed.{Found, found_none, found_one, found_several}

-- each element stands in the relation to each later one
abbrev pub Pairwise : {A : Type 0} → (A → A → Type 0) → List A → Type 0
Pairwise R [] = Unit {0}
Pairwise R (x ∷ xs) = ((y : _) → y ∈ xs → R x y) × Pairwise R xs

module _ (L : Language) where
  -- label number, then scope
  abbrev pub HopBefore : Hop L → Hop L → Type 0
  HopBefore h k = (L.label h.step < L.label k.step) ⊎ ((L.label h.step ≡ L.label k.step) × (h.to < k.to))

  -- by the first hops that are not the same; a path that has no further hop comes first
  abbrev pub HopsBefore : List (Hop L) → List (Hop L) → Type 0
  HopsBefore [] [] = ⊥
  HopsBefore [] (k ∷ p) = Unit {0}
  HopsBefore (h ∷ r) [] = ⊥
  HopsBefore (h ∷ r) (k ∷ p) = HopBefore h k ⊎ ((h ≡ k) × HopsBefore r p)

  -- rows of one path by their marks
  abbrev pub RowBefore : PathRow L → PathRow L → Type 0
  RowBefore r p = HopsBefore r.path.hops p.path.hops ⊎ ((r.path ≡ p.path) × (r.mark < p.mark))

  -- The order of the rows of one scope (01, "The gym file"; with turns, 02, K12): label number; at
  -- one label a step that another is preferred to stands before it; then scope.
  abbrev pub RowHopBefore : Hop L → Hop L → Type 0
  RowHopBefore h k =
      (L.label h.step < L.label k.step)
      ⊎ ((L.label h.step ≡ L.label k.step)
      × ((L.prefers (by k.step) (by h.step) ≡ true) ⊎ ((h.step ≡ k.step) × (h.to < k.to))))

  -- The order of edge rows; and of declarations as far as it matters here: those of one name at one
  -- scope stand by their marks.
  abbrev pub EdgeBefore : Edge L → Edge L → Type 0
  EdgeBefore e f =
      (e.from < f.from)
      ⊎ ((e.from ≡ f.from) × RowHopBefore (record { step = e.step; to = e.to }) (record { step = f.step; to = f.to }))

  abbrev pub MarkBefore : Declaration L → Declaration L → Type 0
  MarkBefore d e = d.at ≡ e.at → d.name ≡ e.name → d.mark < e.mark

  -- What the theorems rely on of an accepted graph and a query of it: less than refusals 1 to 6
  -- give.
  pub record Accepted (g : Graph L) (opens : List (OpenPair L)) (q : Query L) : Type 0 where
    pub laws : Laws L
    pub in_range : InRange L g
    pub edges_ascend : Pairwise EdgeBefore g.edges
    pub declarations_ascend : Pairwise MarkBefore g.declarations
    pub opens_ascend : Pairwise (PairBefore L) opens
    pub starts : q.start < g.scopes

  -- `found` as 02, K2 has it: no entry; an entry whose declaration every entry has; two entries
  -- with different declarations
  abbrev pub FoundIs : Graph L → Query L → Found → Type 0
  FoundIs g q found_none = (r : PathRow L) → ¬ Entry L g q r
  FoundIs g q found_one =
      (r : PathRow L) × Entry L g q r × ((p : PathRow L) → Entry L g q p → row_declaration L q p ≡ row_declaration L q r)
  FoundIs g q found_several =
      (r : PathRow L) × (p : PathRow L) × Entry L g q r × Entry L g q p × ¬ (row_declaration L q r ≡ row_declaration L q p)
