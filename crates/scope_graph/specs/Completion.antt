-- Completions of a graph, and whether a query is settled (01, "The listing"). Assumes nothing:
-- these are definitions.
use Rattle.std.specs.Prelude.{ℕ, ◌<◌, ◌≤◌, ◌≡◌, ◌↔◌, ◌⊎◌, List}
use Rattle.std.proofs.Math.Option.{Option, some, none}
use Rattle.scope_graph.specs.Language.{◌∈◌, End, stop, by, Language}
use Rattle.scope_graph.specs.Graph.{Edge, Declaration, Graph, InRange, Query, OpenPair, Admits}
use Rattle.scope_graph.specs.Path.{PathRow, Entry}

-- ends in the order of 01's open rows: `$` first, then label numbers
abbrev pub EndBefore : End ℕ → End ℕ → Type 0
EndBefore stop stop = ⊥
EndBefore stop (by l) = Unit {0}
EndBefore (by l) stop = ⊥
EndBefore (by l) (by k) = l < k

module _ (L : Language) where
  -- h has all of g's scopes and rows. A row of h that g lacks stands at a new scope, or at an old
  -- one where `Allowed` lets one come: it says so of a scope and an end. New scopes are numbered
  -- after the old ones; there may be any number of them, with any rows, any marks and any turns. A
  -- from, label and to has one turn (`in_range`, its `together`: 02, K12, repeats none).
  pub record Extension (Allowed : ℕ → End L.Step → Type 0) (g h : Graph L) : Type 0 where
    pub scopes_kept : g.scopes ≤ h.scopes
    pub edges_kept : (e : Edge L) → e ∈ g.edges → e ∈ h.edges
    pub declarations_kept : (d : Declaration L) → d ∈ g.declarations → d ∈ h.declarations
    pub new_edge : (e : Edge L) → e ∈ h.edges → (e ∈ g.edges) ⊎ ((g.scopes ≤ e.from) ⊎ Allowed e.from (by e.step))
    pub new_declaration : (d : Declaration L) → d ∈ h.declarations → (d ∈ g.declarations) ⊎ ((g.scopes ≤ d.at) ⊎ Allowed d.at stop)
    pub in_range : InRange L h

  -- at this open pair alone
  abbrev pub At : OpenPair L → ℕ → End L.Step → Type 0
  At o s e = (o.at ≡ s) × Admits L o.end e

  -- at one of the open pairs
  abbrev pub AtOne : List (OpenPair L) → ℕ → End L.Step → Type 0
  AtOne opens s e = (o : OpenPair L) × (o ∈ opens) × At o s e

  -- 01's term *completion*: the language, that is labels, order and automaton, is the graph's
  abbrev pub Completion : List (OpenPair L) → Graph L → Graph L → Type 0
  Completion opens g h = Extension (AtOne opens) g h

  -- both graphs show the query the same entries
  abbrev pub SameEntries : Query L → Graph L → Graph L → Type 0
  SameEntries q g h = (r : PathRow L) → Entry L g q r ↔ Entry L h q r

  -- an open pair comes before another: by scope, then end
  abbrev pub PairBefore : OpenPair L → OpenPair L → Type 0
  PairBefore o r = (o.at < r.at) ⊎ ((o.at ≡ r.at) × EndBefore o.end r.end)

  module _ (g : Graph L) (opens : List (OpenPair L)) (q : Query L) where
    -- 01's term *decisive*
    pub record Decisive (o : OpenPair L) : Type 0 where
      pub stands : o ∈ opens
      pub completion : Graph L
      pub at_pair : Extension (At o) g completion
      pub differs : ¬ SameEntries q g completion

    -- 01's term *settled*
    abbrev pub Settled : Type 0
    Settled = (h : Graph L) → Completion opens g h → SameEntries q g h

    -- `awaits`: the first decisive pair, or none (printed `-`)
    abbrev pub Awaits : Option (OpenPair L) → Type 0
    Awaits none = (o : OpenPair L) → ¬ Decisive o
    Awaits (some o) = Decisive o × ((r : OpenPair L) → PairBefore r o → ¬ Decisive r)
