-- The search meets paths in the listing's order, so nodes, marks and entries ascend. Assumes
-- nothing.
use Prim.Native.Nat.{ℕ, zero, suc, ◌<◌}
use mathlib.Core.Path.{◌≡◌, refl, sym, ap, ◌∙◌}
use mathlib.Core.Bool.{Bool, true, false, not, ◌&&◌}
use mathlib.Core.Logic.{◌⊎◌, inl, inr, ⊎_elim}
use mathlib.Core.Option.{Option, some, none}
use mathlib.Core.List.{List, [], ◌∷◌, map}
use native.Mathlib.Omega.{arith}
use lib.Dec.{eqb}
use borrow.Author.Tests.{eqb-true}
use Rattle.scope_graph.specs.Language.{◌∈◌, stop, Language, Laws}
use Rattle.scope_graph.specs.Graph.{Edge, Declaration, Graph, Query}
use Rattle.scope_graph.specs.Path.{Hop, PathRow}
use Rattle.scope_graph.specs.Rows.{any_of}
use Rattle.scope_graph.specs.Computed.{keep, Node, hops_at, marks_at, declares_any, behind, hop_on, nodes_from, nodes, reached_nodes, preferred_to, cut, rows_at, entries}
use Rattle.scope_graph.specs.Listing.{Pairwise, HopsBefore, RowHopBefore, RowBefore, EdgeBefore, MarkBefore}
use Rattle.scope_graph.specs.Followed.{Preferred}
use Rattle.scope_graph.proofs.Lists.{true_false, not_is, any_of_intro, and_left, and_right, keep_elim, keep_pairwise, pairwise_weaken, map_pairwise, flat_map_elim, flat_map_pairwise}
use Rattle.scope_graph.proofs.Nodes.{Behind, hop_on_elim}
use Rattle.scope_graph.proofs.Reached.{rows_elim}
use Rattle.scope_graph.proofs.Cut.{preferred_to_lem}

module _ (L : Language) where
  -- no path comes before itself
  pub hops_irreflexive : (r : List (Hop L)) → ¬ HopsBefore L r r
  hops_irreflexive [] h = h
  hops_irreflexive (h ∷ r) (inl (inl k)) = omega arith
  hops_irreflexive (h ∷ r) (inl (inr k)) = omega arith
  hops_irreflexive (h ∷ r) (inr k) = hops_irreflexive r k.1

  pub row_irreflexive : (r : PathRow L) → ¬ RowBefore L r r
  row_irreflexive r (inl h) = hops_irreflexive r.path.hops h
  row_irreflexive r (inr h) = omega (arith, h.1)

  -- as HopsBefore, in the order of rows
  abbrev RowsBefore : List (Hop L) → List (Hop L) → Type 0
  RowsBefore [] [] = ⊥
  RowsBefore [] (k ∷ p) = Unit {0}
  RowsBefore (h ∷ r) [] = ⊥
  RowsBefore (h ∷ r) (k ∷ p) = RowHopBefore L h k ⊎ ((h ≡ k) × RowsBefore r p)

  -- what stands first among rows stands first in a listing, unless the other is preferred to it
  listed_or_cut : (r p : List (Hop L)) → RowsBefore r p → HopsBefore L r p ⊎ Preferred L p r stop
  listed_or_cut [] [] h = absurd h
  listed_or_cut [] (k ∷ p) h = inl tt
  listed_or_cut (j ∷ r) [] h = absurd h
  listed_or_cut (j ∷ r) (k ∷ p) (inl (inl l)) = inl (inl (inl l))
  listed_or_cut (j ∷ r) (k ∷ p) (inl (inr (e, inl c))) = inr (inl c)
  listed_or_cut (j ∷ r) (k ∷ p) (inl (inr (e, inr t))) = inl (inl (inr (e, t.1)))
  listed_or_cut (j ∷ r) (k ∷ p) (inr h) =
      ⊎_elim (λ z. inl (inr (h.0, z))) (λ z. inr (inr (sym h.0, z))) (listed_or_cut r p h.1)

  abbrev NodeBefore : Node L → Node L → Type 0
  NodeBefore n m = RowsBefore n.hops m.hops

  -- edges of one scope ascend by their hops
  edge_hop : (s : ℕ) (e f : Edge L) → e.from ≡ s → f.from ≡ s → EdgeBefore L e f
      → RowHopBefore L (record { step = e.step; to = e.to }) (record { step = f.step; to = f.to })
  edge_hop s e f a b (inl h) = absurd (omega arith)
  edge_hop s e f a b (inr h) = h.1

  hops_ascend : (es : List (Edge L)) (s : ℕ) → Pairwise (EdgeBefore L) es → Pairwise (RowHopBefore L) (hops_at L es s)
  unfolding hops_at
  hops_ascend es s h =
      map_pairwise (RowHopBefore L) (λ e. record { step = e.step; to = e.to }) (keep (λ e. eqb e.from s) es)
      (pairwise_weaken (EdgeBefore L) _ (keep (λ e. eqb e.from s) es)
      (λ e f m k. edge_hop s e f (leaves e m) (leaves f k)) (keep_pairwise (EdgeBefore L) (λ e. eqb e.from s) es h))
    where
      leaves : (e : Edge L) → e ∈ keep (λ e. eqb e.from s) es → e.from ≡ s
      leaves e m = eqb-true e.from s (keep_elim (λ (e : Edge L). eqb e.from s) es m).1

  -- behind one hop, in the sequence of what is behind it
  behind_ascend : (enter : ℕ → ℕ → List (Node L)) (seen : List ℕ) (q : ℕ) (h : Hop L) → ((t r : ℕ) → Pairwise NodeBefore (enter t r))
      → Pairwise NodeBefore (hop_on L enter seen q h)
  unfolding hop_on behind
  behind_ascend enter seen q h up = met (any_of (eqb h.to) seen) (L.next q (L.label h.step))
    where
      met : (b : Bool) (o : Option ℕ)
          → Pairwise NodeBefore (elim b as (λ _. List (Node L)) [
            | true ↦ []
            | false ↦ elim o as (λ _. List (Node L)) [ none ↦ [] | some r ↦ map (behind L h) (enter h.to r) ]
          ])
      met true o = tt
      met false none = tt
      met false (some r) =
          map_pairwise NodeBefore (behind L h) (enter h.to r)
          (pairwise_weaken NodeBefore _ (enter h.to r) (λ a b _ _ k. inr (refl, k)) (up h.to r))

  -- an ended path comes first, and hops that come first lead to paths that do
  module _ {enter : ℕ → ℕ → List (Node L)} {seen : List ℕ} {q : ℕ} where
    ended_first : {n : Node L} (h : Hop L) → Behind L enter seen q h n → RowsBefore [] n.hops
    unfolding behind
    ended_first h b = rw b.is tt

    hop_first : {n t : Node L} (h k : Hop L) → Behind L enter seen q h n → Behind L enter seen q k t → RowHopBefore L h k → NodeBefore n t
    unfolding behind
    hop_first h k b c f = rw (b.is, c.is) (inl f)

  module _ (g : Graph L) (edges_ascend : Pairwise (EdgeBefore L) g.edges) where
    from_ascend : (fuel : ℕ) (seen : List ℕ) (s q : ℕ) → Pairwise NodeBefore (nodes_from L fuel g seen s q)
    unfolding nodes_from
    from_ascend zero seen s q = tt
    from_ascend (suc fuel) seen s q = (
      (λ y m. let r = flat_map_elim on (hops_at L g.edges s) m in ended_first r.0 (split r.0 r.2)),
      flat_map_pairwise (RowHopBefore L) NodeBefore on (hops_at L g.edges s) (hops_ascend g.edges s edges_ascend)
          (λ h. behind_ascend _ seen q h (λ t r. from_ascend fuel (t ∷ seen) t r))
          (λ h k x y b m o. hop_first h k (split h m) (split k o) b),
    )
      where
        on : Hop L → List (Node L)
        on = hop_on L (λ t r. nodes_from L fuel g (t ∷ seen) t r) seen q

        split : (h : Hop L) {n : Node L} → n ∈ on h → Behind L (λ t r. nodes_from L fuel g (t ∷ seen) t r) seen q h n
        split h m = hop_on_elim L (λ t r. nodes_from L fuel g (t ∷ seen) t r) seen q h m

    pub nodes_ascend : (q : Query L) → Pairwise NodeBefore (nodes L g q)
    unfolding nodes
    nodes_ascend q = from_ascend g.scopes (q.start ∷ []) q.start 0

    pub reached_ascend : (q : Query L) → Pairwise NodeBefore (reached_nodes L g q)
    unfolding reached_nodes
    reached_ascend q =
        keep_pairwise NodeBefore (λ n. L.accepts n.state && declares_any L g.declarations n.at q.name) (nodes L g q)
        (nodes_ascend q)

  -- the marks of one name at one scope ascend
  module _ (laws : Laws L) where
    pub marks_ascend : (ds : List (Declaration L)) (s : ℕ) (x : L.Name) → Pairwise (MarkBefore L) ds → Pairwise ◌<◌ (marks_at L ds s x)
    unfolding marks_at
    marks_ascend ds s x h =
        map_pairwise ◌<◌ (λ d. d.mark) (keep test ds)
        (pairwise_weaken (MarkBefore L) _ (keep test ds)
        (λ d e m k b. let i = fits d m in let j = fits e k in b (i.0 ∙ sym j.0) (i.1 ∙ sym j.1))
        (keep_pairwise (MarkBefore L) test ds h))
      where
        test : Declaration L → Bool
        test d = eqb d.at s && L.same_name d.name x

        fits : (d : Declaration L) → d ∈ keep test ds → (d.at ≡ s) × (d.name ≡ x)
        fits d m =
            let t = (keep_elim test ds m).1 in
            (eqb-true d.at s (and_left _ _ t), laws.name_same d.name x (and_right (eqb d.at s) _ t))

    module _ (g : Graph L) (q : Query L) (edges_ascend : Pairwise (EdgeBefore L) g.edges)
        (declarations_ascend : Pairwise (MarkBefore L) g.declarations) where
      -- the rows of a place have its hops, and ascend by mark
      row_hops_lem : {r : PathRow L} (n : Node L) → r ∈ rows_at L g q n → r.path.hops ≡ n.hops
      row_hops_lem n k = ap (λ r. r.path.hops) (rows_elim L laws g q n k).2

      place_ascends : (n : Node L) → Pairwise (RowBefore L) (rows_at L g q n)
      unfolding rows_at
      place_ascends n =
          map_pairwise (RowBefore L) _ marks
          (pairwise_weaken ◌<◌ _ marks (λ a b _ _ k. inr (refl, k)) (marks_ascend g.declarations n.at q.name declarations_ascend))
        where
          marks : List ℕ
          marks = marks_at L g.declarations n.at q.name

      -- of the places that are not cut, rows and listing have one order
      seen_ascend : Pairwise (λ n m. HopsBefore L n.hops m.hops) (keep (λ n. not (cut L g q n.hops stop)) (reached_nodes L g q))
      unfolding cut
      seen_ascend =
          pairwise_weaken NodeBefore _ (keep shown (reached_nodes L g q))
          (λ n t m k b.
          ⊎_elim (λ z. z)
          (λ z. absurd (true_false
          (any_of_intro (λ (x : Node L). preferred_to L x.hops n.hops stop) (keep_elim shown (reached_nodes L g q) k).0 ((preferred_to_lem L laws t.hops n.hops stop).1 z))
          (not_is _ (keep_elim shown (reached_nodes L g q) m).1)))
          (listed_or_cut n.hops t.hops b))
          (keep_pairwise NodeBefore shown (reached_nodes L g q) (reached_ascend g edges_ascend q))
        where
          shown : Node L → Bool
          shown n = not (cut L g q n.hops stop)

      pub rows_ascend : Pairwise (RowBefore L) (entries L g q)
      unfolding entries
      rows_ascend =
          flat_map_pairwise (λ n m. HopsBefore L n.hops m.hops) (RowBefore L) (rows_at L g q) (keep (λ n. not (cut L g q n.hops stop)) (reached_nodes L g q))
          seen_ascend
          place_ascends (λ n t x y h m k. inl (rw (row_hops_lem n m, row_hops_lem t k) h))
