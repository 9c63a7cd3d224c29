-- The search and the rules go on by the same hops, and `exists_from` says whether one of the rules'
-- places is sought. Assumes nothing.
use Prim.Native.Nat.{ℕ, zero, suc, ◌<◌}
use mathlib.Core.Path.{◌≡◌, refl, sym, ap, ◌∙◌}
use mathlib.Core.Bool.{Bool, true, false, not, ◌&&◌, ◌||◌}
use mathlib.Core.Option.{Option, some, none}
use mathlib.Core.Logic.{◌⊎◌, inl, inr, ⊎_elim}
use mathlib.Core.List.Memᴰ
use mathlib.Core.List.{List, [], ◌∷◌, map, flat_map}
use lib.Dec.{eqb}
use Rattle.scope_graph.specs.Language.{◌∈◌, End, by, Language}
use Rattle.scope_graph.specs.Graph.{Graph, InRange}
use Rattle.scope_graph.specs.Path.{Hop}
use Rattle.scope_graph.specs.Rows.{any_of}
use Rattle.scope_graph.specs.Computed.{Node, hops_at, declares_any, behind, hop_on, nodes_from}
use Rattle.scope_graph.proofs.Lists.{map_elim, flat_map_elim}
use Rattle.scope_graph.proofs.Nodes.{hops_at_elim}
use Rattle.search.specs.Board.{Board, board_of, without, leads_to, exists_from, hop_leads, cut_here, after, hop_hits}
use Rattle.search.proofs.RulesLists.{any_of_cons, any_of_same, any_of_map, any_of_flat_map}

-- below n a scope is free exactly if it was not met
abbrev pub Agree : ℕ → (ℕ → Bool) → List ℕ → Type 0
Agree n free seen = (t : ℕ) → t < n → free t ≡ not (any_of (eqb t) seen)

-- it stays so with one more scope on the path
pub agree_on : (n : ℕ) (free : ℕ → Bool) (seen : List ℕ) → Agree n free seen → (t : ℕ) → Agree n (without free t) (t ∷ seen)
unfolding without
agree_on n free seen a t u h = rw (a u h, any_of_cons (eqb u) t seen) (split (any_of (eqb u) seen) (eqb u t))
  where
    split : (x y : Bool) → (not x && not y) ≡ not (y || x)
    split true true = refl
    split true false = refl
    split false true = refl
    split false false = refl

-- a path that only stands at its start
pub agree_start : (n : ℕ) (all : ℕ → Bool) (s : ℕ) → ((t : ℕ) → t < n → all t ≡ true) → Agree n (without all s) (s ∷ [])
unfolding without any_of
agree_start n all s h t k = rw (h t k, any_of_cons (eqb t) s []) (split (eqb t s))
  where
    split : (x : Bool) → not x ≡ not (x || false)
    split true = refl
    split false = refl

-- the list, unless the test is met
unfoldable pub unless : {A : Type 0} → Bool → List A → List A
unless true l = []
unless false l = l

module _ (L : Language) (g : Graph L) where
  -- the places from a scope on that a hop comes to, and all places behind a hop
  abbrev pub entered : ℕ → List ℕ → ℕ → ℕ → List (Node L)
  entered fuel seen t r = nodes_from L fuel g (t ∷ seen) t r

  abbrev pub beyond : ℕ → List ℕ → ℕ → Hop L → List (Node L)
  beyond fuel seen q h = hop_on L (entered fuel seen) seen q h

module _ (L : Language) (g : Graph L) (x : L.Name) where
  abbrev b : Board L.Step
  b = board_of L g x

  -- what is sought at a place of the rules
  abbrev pub sought : Node L → Bool
  sought n = L.accepts n.state && declares_any L g.declarations n.at x

  -- a hop that a path does not go on by, in the rules and in the search
  pub record Shut (free : ℕ → Bool) (seen : List ℕ) (q : ℕ) (h : Hop L) : Type 0 where
    pub on : (enter : ℕ → ℕ → List (Node L)) → hop_on L enter seen q h ≡ []
    pub leads : (enter : ℕ → ℕ → Bool) → leads_to b enter free q h ≡ false
    pub hits : (seek : ℕ → ℕ → Bool) (e : End L.Step) (enter : ℕ → ℕ → List (Node L)) (fuel s : ℕ)
        → hop_hits b L.prefers seek e enter fuel free s q h ≡ []

  -- and one that it goes on by, and the state that it leads to
  pub record Open (free : ℕ → Bool) (seen : List ℕ) (q : ℕ) (h : Hop L) : Type 0 where
    pub state : ℕ
    pub on : (enter : ℕ → ℕ → List (Node L)) → hop_on L enter seen q h ≡ map (behind L h) (enter h.to state)
    pub leads : (enter : ℕ → ℕ → Bool) → leads_to b enter free q h ≡ enter h.to state
    pub hits : (seek : ℕ → ℕ → Bool) (e : End L.Step) (enter : ℕ → ℕ → List (Node L)) (fuel s : ℕ)
        → hop_hits b L.prefers seek e enter fuel free s q h
        ≡ unless (cut_here b L.prefers fuel free s q (by h.step)) (map (behind L h) (enter h.to state))

  unless_none : {A : Type 0} (c : Bool) → unless {A = A} c [] ≡ []
  unfolding unless
  unless_none true = refl
  unless_none false = refl

  -- what the search finds behind a hop that is not cut
  unfoldable inside : (ℕ → ℕ → List (Node L)) → (ℕ → Bool) → ℕ → Hop L → List (Node L)
  inside enter free q h =
      elim (free h.to)
      [ false ↦ [] | true ↦ elim (b.next q h.step) [ none ↦ [] | some r ↦ map (after b h) (enter h.to r) ] ]

  hits_inside : (seek : ℕ → ℕ → Bool) (e : End L.Step) (enter : ℕ → ℕ → List (Node L)) (fuel : ℕ) (free : ℕ → Bool) (s q : ℕ) (h : Hop L)
      → hop_hits b L.prefers seek e enter fuel free s q h
      ≡ unless (cut_here b L.prefers fuel free s q (by h.step)) (inside enter free q h)
  unfolding hop_hits inside unless
  hits_inside seek e enter fuel free s q h = split (cut_here b L.prefers fuel free s q (by h.step))
    where
      split : (c : Bool) → (elim c as (λ _. List (Node L)) [ true ↦ [] | false ↦ inside enter free q h ]) ≡ unless c (inside enter free q h)
      split true = refl
      split false = refl

  -- the hop's scope and its transition decide
  module _ (free : ℕ → Bool) (seen : List ℕ) (q : ℕ) (h : Hop L) where
    shut : ((enter : ℕ → ℕ → List (Node L)) → hop_on L enter seen q h ≡ []) → ((enter : ℕ → ℕ → Bool) → leads_to b enter free q h ≡ false)
        → ((enter : ℕ → ℕ → List (Node L)) → inside enter free q h ≡ []) → Shut free seen q h
    shut on leads within = record {
      on = on;
      leads = leads;
      hits = λ seek e enter fuel s. hits_inside seek e enter fuel free s q h ∙ ap (unless _) (within enter) ∙ unless_none _;
    }

    by_state : (f : Bool) → free h.to ≡ f → any_of (eqb h.to) seen ≡ not f → (o : Option ℕ) → L.next q (L.label h.step) ≡ o
        → Shut free seen q h ⊎ Open free seen q h
    unfolding board_of hop_on leads_to inside behind after
    by_state false k m o e = inl (shut (λ enter. rw (m, hop_on)) (λ enter. rw (k, leads_to)) (λ enter. rw (k, inside)))
    by_state true k m none e = inl (shut (λ enter. rw (m, hop_on, e)) (λ enter. rw (k, leads_to, e)) (λ enter. rw (k, inside, e)))
    by_state true k m (some r) e = inr (record {
      state = r;
      on = λ enter. rw (m, hop_on, e);
      leads = λ enter. rw (k, leads_to, e);
      hits = λ seek d enter fuel s. hits_inside seek d enter fuel free s q h ∙ ap (unless _) (rw (k, inside, e));
    })

  -- what some place meets: the scope itself, or one behind a hop
  pub any_step : (f : Node L → Bool) (fuel : ℕ) (seen : List ℕ) (s q : ℕ) → any_of f (nodes_from L (suc fuel) g seen s q)
      ≡ (f (record { hops = []; at = s; state = q })
      || any_of (λ h. any_of f (beyond L g fuel seen q h)) (hops_at L g.edges s))
  unfolding nodes_from
  any_step f fuel seen s q = any_of_cons f _ _ ∙ ap (λ (c : Bool). f (record { hops = []; at = s; state = q }) || c) (any_of_flat_map f _ (hops_at L g.edges s))

  -- the search in one step: the scope itself, or a hop that leads on
  exists_step : (fuel : ℕ) (free : ℕ → Bool) (s q : ℕ) → exists_from b (suc fuel) free s q ≡ (b.here s q || any_of (hop_leads b fuel free q) (b.hops s))
  unfolding exists_from hop_leads
  exists_step fuel free s q = split (b.here s q)
    where
      split : (c : Bool) → (elim c as (λ _. Bool) [ true ↦ true | false ↦ any_of (hop_leads b fuel free q) (b.hops s) ])
          ≡ (c || any_of (hop_leads b fuel free q) (b.hops s))
      split true = refl
      split false = refl

  -- a place behind a hop that paths go on by
  pub record Further (fuel : ℕ) (free : ℕ → Bool) (seen : List ℕ) (s q : ℕ) (n : Node L) : Type 0 where
    pub hop : Hop L
    pub leaves : hop ∈ hops_at L g.edges s
    pub opens : Open free seen q hop
    pub rest : Node L
    pub found : rest ∈ nodes_from L fuel g (hop.to ∷ seen) hop.to opens.state
    pub is : n ≡ behind L hop rest

  module _ (range : InRange L g) where
    -- every hop of the graph is one or the other
    pub hop_view : (free : ℕ → Bool) (seen : List ℕ) → Agree g.scopes free seen → (s q : ℕ) (h : Hop L) → h ∈ hops_at L g.edges s
        → Shut free seen q h ⊎ Open free seen q h
    hop_view free seen a s q h m =
        by_state free seen q h (free h.to) refl (turn (free h.to) _ (a h.to (range.to_scope _ (hops_at_elim L g.edges s m))))
        (L.next q (L.label h.step)) refl
      where
        turn : (y z : Bool) → y ≡ not z → z ≡ not y
        turn true true k = k
        turn true false k = refl
        turn false true k = refl
        turn false false k = k

    -- what is sought is at the end of a path exactly if it is at a place of the rules; so also
    -- behind a hop
    module _ (fuel : ℕ) (ih : (free : ℕ → Bool) (seen : List ℕ) → Agree g.scopes free seen → (s q : ℕ)
        → exists_from b fuel free s q ≡ any_of sought (nodes_from L fuel g seen s q)) where
      leads_by_lem : (free : ℕ → Bool) (seen : List ℕ) → Agree g.scopes free seen → (s q : ℕ) (h : Hop L) → h ∈ hops_at L g.edges s
          → hop_leads b fuel free q h ≡ any_of sought (beyond L g fuel seen q h)
      unfolding hop_leads behind any_of
      leads_by_lem free seen a s q h m = ⊎_elim closed goes (hop_view free seen a s q h m)
        where
          closed : Shut free seen q h → hop_leads b fuel free q h ≡ any_of sought (beyond L g fuel seen q h)
          closed v = v.leads _ ∙ ap (any_of sought) (sym (v.on (entered L g fuel seen)))

          goes : Open free seen q h → hop_leads b fuel free q h ≡ any_of sought (beyond L g fuel seen q h)
          goes v =
              v.leads _ ∙ ih (without free h.to) (h.to ∷ seen) (agree_on g.scopes free seen a h.to) h.to v.state
              ∙ sym (any_of_map sought (behind L h) (nodes_from L fuel g (h.to ∷ seen) h.to v.state))
              ∙ ap (any_of sought) (sym (v.on (entered L g fuel seen)))

    pub exists_is : (fuel : ℕ) (free : ℕ → Bool) (seen : List ℕ) → Agree g.scopes free seen → (s q : ℕ)
        → exists_from (board_of L g x) fuel free s q ≡ any_of sought (nodes_from L fuel g seen s q)
    unfolding board_of exists_from nodes_from any_of
    exists_is zero free seen a s q = refl
    exists_is (suc fuel) free seen a s q =
        exists_step fuel free s q
        ∙ ap (λ (c : Bool). b.here s q || c) (any_of_same _ _ (hops_at L g.edges s) (leads_by_lem fuel (exists_is fuel) free seen a s q))
        ∙ sym (any_step sought fuel seen s q)

    pub leads_is : (fuel : ℕ) (free : ℕ → Bool) (seen : List ℕ) → Agree g.scopes free seen → (s q : ℕ) (h : Hop L) → h ∈ hops_at L g.edges s
        → hop_leads (board_of L g x) fuel free q h ≡ any_of sought (beyond L g fuel seen q h)
    leads_is fuel = leads_by_lem fuel (exists_is fuel)

    -- a place of the rules is the scope itself, or one behind a hop
    pub node_view : (fuel : ℕ) (free : ℕ → Bool) (seen : List ℕ) → Agree g.scopes free seen → (s q : ℕ) (n : Node L)
        → n ∈ nodes_from L (suc fuel) g seen s q → (n ≡ record { hops = []; at = s; state = q }) ⊎ Further fuel free seen s q n
    unfolding nodes_from
    node_view fuel free seen a s q n m = ⊎_elim inl (λ k. inr (further k)) (Memᴰ.cases_cons m)
      where
        enter : ℕ → ℕ → List (Node L)
        enter t r = nodes_from L fuel g (t ∷ seen) t r

        shut : (h : Hop L) → n ∈ hop_on L enter seen q h → Shut free seen q h → Further fuel free seen s q n
        shut h k v = absurd (Memᴰ.not-nil (rw (v.on enter) at k))

        goes : (h : Hop L) → h ∈ hops_at L g.edges s → n ∈ hop_on L enter seen q h → (v : Open free seen q h)
            → Further fuel free seen s q n
        goes h k l v =
            let r = map_elim (behind L h) (enter h.to v.state) (rw (v.on enter) at l) in
            record { hop = h; leaves = k; opens = v; rest = r.0; found = r.1; is = r.2 }

        further : n ∈ flat_map (hop_on L enter seen q) (hops_at L g.edges s) → Further fuel free seen s q n
        further k =
            let r = flat_map_elim (hop_on L enter seen q) (hops_at L g.edges s) k in
            ⊎_elim (shut r.0 r.2) (goes r.0 r.1 r.2) (hop_view free seen a s q r.0 r.1)
