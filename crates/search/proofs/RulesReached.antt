-- Hops that the search takes to be reached are those of a reached path. Assumes nothing.
use Prim.Native.Nat.{ℕ, zero, suc, ◌<◌}
use mathlib.Core.Path.{◌≡◌, refl, sym, ap, ◌∙◌}
use mathlib.Core.Bool.{Bool, true, false, ◌&&◌}
use mathlib.Core.Logic.{⊎_elim}
use mathlib.Core.List.Memᴰ
use mathlib.Core.List.{List, [], ◌∷◌}
use native.Mathlib.Omega.{arith}
use lib.Dec.{eqb}
use borrow.Author.Tests.{eq-eqb}
use lib.ListN.{length}
use Rattle.scope_graph.specs.Language.{◌∈◌, Language, Laws}
use Rattle.scope_graph.specs.Graph.{Graph, InRange, Query}
use Rattle.scope_graph.specs.Path.{Hop}
use Rattle.scope_graph.specs.Rows.{any_of}
use Rattle.scope_graph.specs.Computed.{Node, hops_at, behind, hop_on, nodes_from, same_hop, same_hops, nodes, reached_nodes, is_reached}
use Rattle.scope_graph.proofs.Lists.{true_false, not_true, and_left, and_right, and_both, here, there, any_of_intro, any_of_elim, keep_intro, keep_elim, map_intro, flat_map_intro}
use Rattle.scope_graph.proofs.Nodes.{from_sound, path_short}
use Rattle.scope_graph.proofs.Reached.{same_hop_lem, same_hops_lem}
use Rattle.search.specs.Board.{Board, board_of, without, leads_to, among, reached_by}
use Rattle.search.proofs.RulesNodes.{Agree, agree_on, entered, sought, Open, hop_view, Further, node_view}

-- two tests that imply one another are equal
both_ways : (a c : Bool) → (a ≡ true → c ≡ true) → (c ≡ true → a ≡ true) → a ≡ c
both_ways true c f k = sym (f refl)
both_ways false c f k = sym (not_true c (λ t. true_false (k t) refl))

module _ (L : Language) (laws : Laws L) (g : Graph L) (x : L.Name) (range : InRange L g) where
  abbrev b : Board L.Step
  b = board_of L g x

  reached_step : (free : ℕ → Bool) (s q : ℕ) (h : Hop L) (hs : List (Hop L)) → reached_by b free s q (h ∷ hs)
      ≡ (any_of (λ k. same_hop L.same_step k h) (hops_at L g.edges s) && leads_to b (λ t r. reached_by b (without free t) t r hs) free q h)
  unfolding reached_by among board_of same_hop
  reached_step free s q h hs = split (among b h (b.hops s)) (leads_to b (λ t r. reached_by b (without free t) t r hs) free q h)
    where
      split : (c d : Bool) → (elim c as (λ _. Bool) [ false ↦ false | true ↦ d ]) ≡ (c && d)
      split true d = refl
      split false d = refl

  -- the hops of a place where what is sought is
  pub node_reached : (fuel : ℕ) (free : ℕ → Bool) (seen : List ℕ) → Agree g.scopes free seen → (s q : ℕ) (n : Node L)
      → n ∈ nodes_from L fuel g seen s q → sought L g x n ≡ true → reached_by (board_of L g x) free s q n.hops ≡ true
  unfolding nodes_from reached_by board_of behind
  node_reached zero free seen a s q n m t = absurd (Memᴰ.not-nil m)
  node_reached (suc fuel) free seen a s q n m t =
      ⊎_elim ended (λ f. further f (node_reached fuel _ _ (agree_on g.scopes free seen a f.hop.to) _ _ f.rest f.found))
      (node_view L g x range fuel free seen a s q n m)
    where
      ended : n ≡ record { hops = []; at = s; state = q } → reached_by b free s q n.hops ≡ true
      ended z = rw z (rw z at t)

      further : (f : Further L g x fuel free seen s q n)
          → (sought L g x f.rest ≡ true → reached_by b (without free f.hop.to) f.hop.to f.opens.state f.rest.hops ≡ true)
          → reached_by b free s q n.hops ≡ true
      further f ih =
          rw f.is
          (reached_step free s q f.hop f.rest.hops
          ∙ and_both _ _ (any_of_intro (λ k. same_hop L.same_step k f.hop) f.leaves ((same_hop_lem L laws f.hop f.hop).1 refl))
          (f.opens.leads _ ∙ ih (rw f.is at t)))

  -- and back: the place that the hops come to
  pub record PlaceOf (fuel : ℕ) (seen : List ℕ) (s q : ℕ) (hops : List (Hop L)) : Type 0 where
    pub node : Node L
    pub listed : node ∈ nodes_from L fuel g seen s q
    pub along : node.hops ≡ hops
    pub ends : sought L g x node ≡ true

  pub reached_node : (fuel : ℕ) (free : ℕ → Bool) (seen : List ℕ) → Agree g.scopes free seen → (s q : ℕ) (hops : List (Hop L))
      → length hops < fuel → reached_by (board_of L g x) free s q hops ≡ true → PlaceOf fuel seen s q hops
  unfolding nodes_from reached_by board_of behind
  reached_node zero free seen a s q hops l t = absurd (omega arith)
  reached_node (suc fuel) free seen a s q [] l t = record { node = record { hops = []; at = s; state = q }; listed = here; along = refl; ends = t }
  reached_node (suc fuel) free seen a s q (h ∷ hs) l t =
      let c = reached_step free s q h hs in
      let m = leaves (and_left (any_of (λ k. same_hop L.same_step k h) (hops_at L g.edges s)) _ (sym c ∙ t)) in
      let w = and_right (any_of (λ k. same_hop L.same_step k h) (hops_at L g.edges s)) _ (sym c ∙ t) in
      ⊎_elim (λ v. absurd (true_false w (v.leads _)))
      (λ v. further m v (reached_node fuel _ _ (agree_on g.scopes free seen a h.to) h.to v.state hs (omega arith) (sym (v.leads _) ∙ w)))
      (hop_view L g x range free seen a s q h m)
    where
      leaves : any_of (λ k. same_hop L.same_step k h) (hops_at L g.edges s) ≡ true → h ∈ hops_at L g.edges s
      leaves k =
          let r = any_of_elim (λ k. same_hop L.same_step k h) (hops_at L g.edges s) k in
          Memᴰ.cast (sym ((same_hop_lem L laws r.0 h).0 r.2)) r.1

      further : h ∈ hops_at L g.edges s → (v : Open L g x free seen q h) → PlaceOf fuel (h.to ∷ seen) h.to v.state hs
          → PlaceOf (suc fuel) seen s q (h ∷ hs)
      further m v p = record {
        node = behind L h p.node;
        listed = there (flat_map_intro (hop_on L (entered L g fuel seen) seen q) m
            (rw (v.on (entered L g fuel seen)) (map_intro (behind L h) p.listed)));
        along = ap (λ (r : List (Hop L)). h ∷ r) p.along;
        ends = p.ends;
      }

module _ (L : Language) (laws : Laws L) (g : Graph L) (q : Query L) (range : InRange L g) (starts : q.start < g.scopes) where
  -- different scopes of the graph: hops that the search goes along are fewer than the scopes
  reached_short : (free : ℕ → Bool) → Agree g.scopes free (q.start ∷ []) → (hops : List (Hop L))
      → reached_by (board_of L g q.name) free q.start 0 hops ≡ true → length hops < g.scopes
  reached_short free a hops t =
      let p = reached_node L laws g q.name range (suc (length hops)) free (q.start ∷ []) a q.start 0 hops (omega arith) t in
      let w = from_sound L g (suc (length hops)) (q.start ∷ []) q.start 0 p.listed in
      rw p.along at (path_short L g q starts range p.node.hops
      (record { starts = starts; along = w.along; simple = ((λ k. w.fresh q.start k here), w.apart) }))

  -- from the query's start: exactly the reached paths
  pub reached_by_lem : (free : ℕ → Bool) → Agree g.scopes free (q.start ∷ []) → (hops : List (Hop L))
      → reached_by (board_of L g q.name) free q.start 0 hops ≡ is_reached L g q (record { start = q.start; hops = hops })
  unfolding is_reached reached_nodes nodes
  reached_by_lem free a hops = both_ways _ _ sound complete
    where
      sound : reached_by (board_of L g q.name) free q.start 0 hops ≡ true → is_reached L g q (record { start = q.start; hops = hops }) ≡ true
      sound t =
          let p = reached_node L laws g q.name range g.scopes free (q.start ∷ []) a q.start 0 hops (reached_short free a hops t) t in
          and_both _ _ (eq-eqb q.start q.start refl)
          (any_of_intro (λ n. same_hops L n.hops hops) (keep_intro (sought L g q.name) p.listed p.ends)
          ((same_hops_lem L laws p.node.hops hops).1 p.along))

      complete : is_reached L g q (record { start = q.start; hops = hops }) ≡ true → reached_by (board_of L g q.name) free q.start 0 hops ≡ true
      complete t =
          let k = any_of_elim (λ n. same_hops L n.hops hops) (reached_nodes L g q) (and_right (eqb q.start q.start) _ t) in
          let m = keep_elim (sought L g q.name) (nodes L g q) k.1 in
          rw ((same_hops_lem L laws k.0.hops hops).0 k.2) at
          (node_reached L laws g q.name range g.scopes free (q.start ∷ []) a q.start 0 k.0 m.0 m.1)
