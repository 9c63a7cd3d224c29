-- The followed places that the search gives are the places of the rules that are asked for and not
-- cut, in the rules' sequence. Assumes nothing.
use Prim.Native.Nat.{ℕ, zero, suc}
use mathlib.Core.Path.{◌≡◌, refl, sym, ap, ◌∙◌}
use mathlib.Core.Bool.{Bool, true, false, not, ◌&&◌, ◌||◌, and-false}
use mathlib.Core.Logic.{⊎_elim}
use mathlib.Core.List.{List, [], ◌∷◌, ◌++◌, map, flat_map}
use Rattle.scope_graph.specs.Language.{◌∈◌, End, by, Language, Laws}
use Rattle.scope_graph.specs.Graph.{Graph, InRange}
use Rattle.scope_graph.specs.Path.{Hop}
use Rattle.scope_graph.specs.Computed.{keep, Node, hops_at, behind, nodes_from}
use Rattle.search.specs.Board.{Board, board_of, without, cut_here, node_at, own_hit, hop_hits, hits_from}
use Rattle.search.proofs.RulesLists.{put, put_append, keep_cons, keep_same, keep_no, keep_map, keep_flat_map, flat_map_same}
use Rattle.search.proofs.RulesNodes.{Agree, agree_on, unless, entered, beyond, Shut, Open, hop_view}
use Rattle.search.proofs.RulesCut.{cut_from, cut_here_lem, cut_on}

-- behind a hop that is cut everything is
cut_all : {A B : Type 0} (c : Bool) (f : A → B) (seek below : A → Bool) (l : List A)
    → unless c (map f (keep (λ n. seek n && not (below n)) l)) ≡ map f (keep (λ n. seek n && not (c || below n)) l)
unfolding unless
cut_all true f seek below l = sym (ap (map f) (keep_no _ l (λ n m. and-false (seek n))))
cut_all false f seek below l = refl

module _ (L : Language) (laws : Laws L) (g : Graph L) (x : L.Name) (range : InRange L g) (seek : ℕ → ℕ → Bool) (e : End L.Step) where
  abbrev b : Board L.Step
  b = board_of L g x

  -- a place that is asked for and not cut, from a scope and a state on
  unfoldable pub is_hit : ℕ → List ℕ → ℕ → ℕ → Node L → Bool
  is_hit fuel seen s q n = seek n.at n.state && not (cut_from L g x fuel seen s q n.hops e)

  own_is : (fuel : ℕ) (free : ℕ → Bool) (s q : ℕ)
      → own_hit b L.prefers seek e fuel free s q ≡ put (seek s q && not (cut_here b L.prefers fuel free s q e)) (node_at b s q) []
  unfolding own_hit put
  own_is fuel free s q = split (seek s q && not (cut_here b L.prefers fuel free s q e))
    where
      split : (c : Bool) → (elim c as (λ _. List (Node L)) [ true ↦ node_at b s q ∷ [] | false ↦ [] ]) ≡ put c (node_at b s q) []
      split true = refl
      split false = refl

  module _ (fuel : ℕ) (ih : (free : ℕ → Bool) (seen : List ℕ) → Agree g.scopes free seen → (s q : ℕ)
      → hits_from b L.prefers seek e fuel free s q ≡ keep (is_hit fuel seen s q) (nodes_from L fuel g seen s q)) where
    hop_hits_lem : (free : ℕ → Bool) (seen : List ℕ) → Agree g.scopes free seen → (s q : ℕ) (h : Hop L) → h ∈ hops_at L g.edges s
        → hop_hits b L.prefers seek e (λ t r. hits_from b L.prefers seek e fuel (without free t) t r) fuel free s q h
        ≡ keep (is_hit (suc fuel) seen s q) (beyond L g fuel seen q h)
    unfolding keep is_hit behind
    hop_hits_lem free seen a s q h m = ⊎_elim shut goes (hop_view L g x range free seen a s q h m)
      where
        enter : ℕ → ℕ → List (Node L)
        enter t r = hits_from b L.prefers seek e fuel (without free t) t r

        shut : Shut L g x free seen q h
            → hop_hits b L.prefers seek e enter fuel free s q h ≡ keep (is_hit (suc fuel) seen s q) (beyond L g fuel seen q h)
        shut v = rw (v.on (entered L g fuel seen)) (v.hits seek e enter fuel s)

        goes : Open L g x free seen q h
            → hop_hits b L.prefers seek e enter fuel free s q h ≡ keep (is_hit (suc fuel) seen s q) (beyond L g fuel seen q h)
        goes v =
            let N = nodes_from L fuel g (h.to ∷ seen) h.to v.state in
            let c = cut_here b L.prefers fuel free s q (by h.step) in
            v.hits seek e enter fuel s
            ∙ ap (λ l. unless c (map (behind L h) l)) (ih (without free h.to) (h.to ∷ seen) (agree_on g.scopes free seen a h.to) h.to v.state)
            ∙ cut_all c (behind L h) (λ n. seek n.at n.state) (λ n. cut_from L g x fuel (h.to ∷ seen) h.to v.state n.hops e) N
            ∙ ap (map (behind L h)) (keep_same _ _ N (λ n k. ap (λ (y : Bool). seek n.at n.state && not y)
            (sym (cut_on L laws g x range fuel free seen a s q h v n.hops e m))))
            ∙ sym (keep_map (is_hit (suc fuel) seen s q) (behind L h) N)
            ∙ ap (keep (is_hit (suc fuel) seen s q)) (sym (v.on (entered L g fuel seen)))

  pub hits_are : (fuel : ℕ) (free : ℕ → Bool) (seen : List ℕ) → Agree g.scopes free seen → (s q : ℕ)
      → hits_from (board_of L g x) L.prefers seek e fuel free s q ≡ keep (is_hit fuel seen s q) (nodes_from L fuel g seen s q)
  unfolding hits_from nodes_from keep board_of node_at is_hit
  hits_are zero free seen a s q = refl
  hits_are (suc fuel) free seen a s q =
      let hit = is_hit (suc fuel) seen s q in
      let node = node_at b s q in
      let rest = flat_map (beyond L g fuel seen q) (hops_at L g.edges s) in
      ap (λ l. l ++ flat_map (hop_hits b L.prefers seek e (λ t r. hits_from b L.prefers seek e fuel (without free t) t r) fuel free s q) (b.hops s))
      (own_is fuel free s q ∙ ap (λ (c : Bool). put (seek s q && not c) node []) (sym (cut_here_lem L laws g x range fuel free seen a s q e)))
      ∙ ap (λ l. put (hit node) node [] ++ l)
      (flat_map_same _ _ (hops_at L g.edges s) (hop_hits_lem fuel (hits_are fuel) free seen a s q)
      ∙ sym (keep_flat_map hit (beyond L g fuel seen q) (hops_at L g.edges s)))
      ∙ sym (put_append (hit node) node [] (keep hit rest))
      ∙ sym (keep_cons hit node rest)
