-- The search, over what it looks at of a graph and a query. A *board* is no term of document 01;
-- proofs/ says that its answers are those of scope_graph's rules. How it goes through the graph is
-- 01's ("Paths", the sentence on a search). Assumes nothing: these are definitions.
use Rattle.std.specs.Prelude.{ℕ, zero, suc, Bool, true, false, not, ◌&&◌, ◌||◌, eqb}
use Rattle.std.proofs.Math.Option.{Option, some, none}
use mathlib.Core.List.{List, [], ◌∷◌, ◌++◌, map, flat_map}
use Rattle.scope_graph.specs.Language.{End, stop, by, Language}
use Rattle.scope_graph.specs.Graph.{Graph}
use Rattle.scope_graph.specs.Path.{HopOf}
use Rattle.scope_graph.specs.Rows.{any_of}
use Rattle.scope_graph.specs.Computed.{NodeOf, same_hop, hops_at, declares_any}

-- A is what a step carries: a label, with a turn since 02's K12.
pub record Board (A : Type 0) : Type 0 where
  -- the hops that leave a scope, in row sequence
  pub hops : ℕ → List (HopOf A)
  -- the state after a step
  pub next : ℕ → A → Option ℕ
  -- what is sought: a path may end at the scope in the state, since the state accepts and the scope
  -- declares the name
  pub here : ℕ → ℕ → Bool
  pub same : A → A → Bool

-- the board of a graph and a name
unfoldable pub board_of : (L : Language) → Graph L → L.Name → Board L.Step
board_of L g x = record {
  hops = hops_at L g.edges;
  next = λ q t. L.next q (L.label t);
  here = λ s q. L.accepts q && declares_any L g.declarations s x;
  same = L.same_step;
}

-- the scopes that are not on the path, after one more is
unfoldable pub without : (ℕ → Bool) → ℕ → ℕ → Bool
without free s t = free t && not (eqb t s)

module _ {A : Type 0} (b : Board A) where
  -- what `enter` says of the scope and state that a hop comes to; no where the scope is on the path
  -- or there is no transition
  unfoldable pub leads_to : (ℕ → ℕ → Bool) → (ℕ → Bool) → ℕ → HopOf A → Bool
  leads_to enter free q h =
      elim (free h.to) [
        | false ↦ false
        | true ↦ elim (b.next q h.step) [ none ↦ false | some r ↦ enter h.to r ]
      ]

  -- Is what is sought at the end of a path that goes on from the scope and state by free scopes
  -- only, with fewer than `fuel` hops? The scope itself is not free any more.
  unfoldable pub exists_from : ℕ → (ℕ → Bool) → ℕ → ℕ → Bool
  exists_from zero free s q = false
  exists_from (suc fuel) free s q =
      elim (b.here s q) [
        | true ↦ true
        | false ↦ any_of (leads_to (λ t r. exists_from fuel (without free t) t r) free q) (b.hops s)
      ]

  -- does a hop lead to what is sought, with fewer than `fuel` hops behind it?
  unfoldable pub hop_leads : ℕ → (ℕ → Bool) → ℕ → HopOf A → Bool
  hop_leads fuel free q h = leads_to (λ t r. exists_from fuel (without free t) t r) free q h

  -- a place by itself, and a place behind a hop
  unfoldable pub node_at : ℕ → ℕ → NodeOf A
  node_at s q = record { hops = []; at = s; state = q }

  unfoldable pub after : HopOf A → NodeOf A → NodeOf A
  after h n = record { hops = h ∷ n.hops; at = n.at; state = n.state }

  -- is the hop one of the list?
  unfoldable pub among : HopOf A → List (HopOf A) → Bool
  among h hs = any_of (λ k. same_hop b.same k h) hs

  -- do these hops lead from the scope and state, along edges and by free scopes, to what is sought?
  unfoldable pub reached_by : (ℕ → Bool) → ℕ → ℕ → List (HopOf A) → Bool
  reached_by free s q [] = b.here s q
  reached_by free s q (h ∷ hs) =
      elim (among h (b.hops s)) [
        | false ↦ false
        | true ↦ leads_to (λ t r. reached_by (without free t) t r hs) free q h
      ]

  -- where the order says which end is preferred
  module _ (prefers : End A → End A → Bool) where
    -- At a scope and state an end is cut if what is sought lies at an end that is preferred to it:
    -- the path may stop here, or a hop leads there.
    unfoldable pub cut_here : ℕ → (ℕ → Bool) → ℕ → ℕ → End A → Bool
    cut_here fuel free s q e =
        b.here s q && prefers stop e
        || any_of (λ h. prefers (by h.step) e && hop_leads fuel free q h) (b.hops s)

    -- some end along the hops is cut where they go by it, or the end `e` behind them
    unfoldable pub cut_along : ℕ → (ℕ → Bool) → ℕ → ℕ → List (HopOf A) → End A → Bool
    cut_along zero free s q hs e = false
    cut_along (suc fuel) free s q [] e = cut_here fuel free s q e
    cut_along (suc fuel) free s q (h ∷ hs) e =
        cut_here fuel free s q (by h.step) || leads_to (λ t r. cut_along fuel (without free t) t r hs e) free q h

    -- The places that are followed, that is, come after no cut end, that `seek` asks for, and where
    -- the end `e` is not cut: first the scope itself, then hop by hop. With what is sought and `$`
    -- these are a query's visible paths; with an open pair's scope and end they show it decisive.
    module _ (seek : ℕ → ℕ → Bool) (e : End A) where
      unfoldable pub own_hit : ℕ → (ℕ → Bool) → ℕ → ℕ → List (NodeOf A)
      own_hit fuel free s q = elim (seek s q && not (cut_here fuel free s q e)) [ true ↦ node_at s q ∷ [] | false ↦ [] ]

      unfoldable pub hop_hits : (ℕ → ℕ → List (NodeOf A)) → ℕ → (ℕ → Bool) → ℕ → ℕ → HopOf A → List (NodeOf A)
      hop_hits enter fuel free s q h =
          elim (cut_here fuel free s q (by h.step)) [
            | true ↦ []
            | false ↦
                elim (free h.to) [
                  | false ↦ []
                  | true ↦ elim (b.next q h.step) [ none ↦ [] | some r ↦ map (after h) (enter h.to r) ]
                ]
          ]

      unfoldable pub hits_from : ℕ → (ℕ → Bool) → ℕ → ℕ → List (NodeOf A)
      hits_from zero free s q = []
      hits_from (suc fuel) free s q =
          own_hit fuel free s q ++ flat_map (hop_hits (λ t r. hits_from fuel (without free t) t r) fuel free s q) (b.hops s)
