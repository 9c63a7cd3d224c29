-- A query's answers by the search are those of the rules: its entries, whether an open pair is
-- followed, a path's standing. Assumes nothing.
use Prim.Native.Nat.{ℕ, ◌<◌}
use mathlib.Core.Path.{◌≡◌, refl, sym, ap, ◌∙◌}
use mathlib.Core.Bool.{Bool, true, false, not, ◌&&◌, and-true, and_assoc}
use mathlib.Core.List.{List, [], ◌∷◌, flat_map}
use lib.Dec.{eqb}
use borrow.Author.Tests.{eq-eqb}
use Rattle.scope_graph.specs.Language.{◌∈◌, End, stop, Language, Laws}
use Rattle.scope_graph.specs.Graph.{Graph, InRange, Query, OpenPair}
use Rattle.scope_graph.specs.Path.{Hop, Path}
use Rattle.scope_graph.specs.Rows.{any_of}
use Rattle.scope_graph.specs.Computed.{keep, Node, Standing, is_visible, is_shadowed, is_unreached, usable, nodes, reached_nodes, cut, rows_at, entries, same_hops, is_reached, standing, open_end, followed_at}
use Rattle.scope_graph.proofs.Lists.{and_right, any_of_elim, keep_elim}
use Rattle.scope_graph.proofs.Reached.{same_hops_lem}
use Rattle.search.specs.Board.{Board, board_of, without, reached_by, cut_along, hits_from}
use Rattle.search.proofs.RulesLists.{any_of_same, any_of_keep, keep_keep}
use Rattle.search.proofs.RulesNodes.{Agree, agree_start, sought}
use Rattle.search.proofs.RulesCut.{cut_from, cut_along_lem}
use Rattle.search.proofs.RulesHits.{is_hit, hits_are}
use Rattle.search.proofs.RulesReached.{reached_by_lem}

module _ (L : Language) (laws : Laws L) (g : Graph L) (q : Query L) (range : InRange L g) (starts : q.start < g.scopes) where
  abbrev b : Board L.Step
  b = board_of L g q.name

  -- the search's start: all scopes of the graph are free but the query's start
  module _ (all : ℕ → Bool) (full : (t : ℕ) → t < g.scopes → all t ≡ true) where
    abbrev pub free : ℕ → Bool
    free = without all q.start

    -- what the search says from there: the followed places, reached hops, cut hops
    abbrev pub hits : (ℕ → ℕ → Bool) → End L.Step → List (Node L)
    hits seek e = hits_from b L.prefers seek e g.scopes free q.start 0

    abbrev pub reached : List (Hop L) → Bool
    reached hops = reached_by b free q.start 0 hops

    abbrev pub cut_by : List (Hop L) → End L.Step → Bool
    cut_by hops e = cut_along b L.prefers g.scopes free q.start 0 hops e

    pub agrees : Agree g.scopes free (q.start ∷ [])
    agrees = agree_start g.scopes all q.start full

    -- the followed places are the rules' places that are asked for and not cut
    pub hits_kept : (seek : ℕ → ℕ → Bool) (e : End L.Step) → hits seek e
        ≡ keep (λ n. seek n.at n.state && not (cut L g q n.hops e)) (nodes L g q)
    unfolding cut nodes reached_nodes is_hit cut_from
    hits_kept seek e = hits_are L laws g q.name range seek e g.scopes free (q.start ∷ []) agrees q.start 0

    -- a query's entries are the rows of the followed places where the path may stop
    pub entries_are_hits : entries L g q ≡ flat_map (rows_at L g q) (hits b.here stop)
    unfolding entries reached_nodes board_of
    entries_are_hits = ap (flat_map (rows_at L g q)) (keep_keep _ _ (nodes L g q) ∙ sym (hits_kept b.here stop))

    -- an open pair is followed exactly if the search finds a place for it
    pub followed_is_hit : (o : OpenPair L) → followed_at L g q o
        ≡ any_of (λ n. true) (hits (λ s st. eqb s o.at && usable L st (open_end L g q o.end)) (open_end L g q o.end))
    unfolding followed_at
    followed_is_hit o =
        let end = open_end L g q o.end in
        let seek : ℕ → ℕ → Bool = λ s st. eqb s o.at && usable L st end in
        any_of_same _ _ (nodes L g q)
        (λ n m. sym (and-true _ ∙ and_assoc (eqb n.at o.at) (usable L n.state end) (not (cut L g q n.hops end))))
        ∙ sym (any_of_keep (λ n. true) (λ n. seek n.at n.state && not (cut L g q n.hops end)) (nodes L g q))
        ∙ ap (any_of (λ n. true)) (sym (hits_kept seek end))

    -- what cuts a path's hops
    pub cut_is_along : (n : Node L) → n ∈ nodes L g q → (e : End L.Step) → cut_by n.hops e ≡ cut L g q n.hops e
    unfolding cut nodes reached_nodes cut_from
    cut_is_along n m e = cut_along_lem L laws g q.name range g.scopes free (q.start ∷ []) agrees q.start 0 n m e

    -- whether a path is reached, and then whether it is cut
    pub reached_is : (p : Path L) → is_reached L g q p ≡ (eqb p.start q.start && reached p.hops)
    unfolding is_reached
    reached_is p =
        ap (λ (c : Bool). eqb p.start q.start && c)
        (sym (reached_by_lem L laws g q range starts free agrees p.hops
        ∙ ap (λ (c : Bool). c && any_of (λ n. same_hops L n.hops p.hops) (reached_nodes L g q)) (eq-eqb q.start q.start refl)))

    reached_cut : (p : Path L) → is_reached L g q p ≡ true → cut_by p.hops stop ≡ cut L g q p.hops stop
    unfolding is_reached reached_nodes
    reached_cut p t =
        let k = any_of_elim (λ n. same_hops L n.hops p.hops) (reached_nodes L g q) (and_right (eqb p.start q.start) _ t) in
        let m = keep_elim (sought L g q.name) (nodes L g q) k.1 in
        rw ((same_hops_lem L laws k.0.hops p.hops).0 k.2) at (cut_is_along k.0 m.0 stop)

    -- a path's standing
    pub standing_is : (p : Path L) → standing L g q p
        ≡ (elim (eqb p.start q.start && reached p.hops) as (λ _. Standing) [
          | false ↦ is_unreached
          | true ↦ elim (cut_by p.hops stop) as (λ _. Standing) [ true ↦ is_shadowed | false ↦ is_visible ]
        ])
    unfolding standing
    standing_is p = rw (← (reached_is p)) (split (is_reached L g q p) refl)
      where
        split : (c : Bool) → is_reached L g q p ≡ c
            → ◌≡◌ {A = Standing} (elim c as (λ _. Standing)
            [ false ↦ is_unreached | true ↦ elim (cut L g q p.hops stop) as (λ _. Standing) [ true ↦ is_shadowed | false ↦ is_visible ] ])
            (elim c as (λ _. Standing) [
              | false ↦ is_unreached
              | true ↦ elim (cut_by p.hops stop) as (λ _. Standing) [ true ↦ is_shadowed | false ↦ is_visible ]
            ])
        split false t = refl
        split true t = rw (reached_cut p t)
