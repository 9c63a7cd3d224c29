-- The search's places are the paths: `nodes` lists a place exactly if a path of the graph comes to it and leads to its state. Assumes nothing.
use Prim.Native.Nat.{ℕ, zero, suc, ◌<◌}
use mathlib.Core.Path.{◌≡◌, refl, sym, ap, subst}
use mathlib.Core.Bool.{Bool, true, false}
use mathlib.Core.Logic.{◌↔◌, ⊎_elim}
use mathlib.Core.Option.{Option, some, none}
use mathlib.Core.List.Memᴰ
use mathlib.Core.List.{List, [], ◌∷◌, map, flat_map}
use native.Mathlib.Omega.{arith}
use lib.Dec.{eqb}
use borrow.Author.Tests.{eqb-true, eq-eqb}
use lib.ListN.{length}
use Rattle.scope_graph.specs.Language.{◌∈◌, Language}
use Rattle.scope_graph.specs.Graph.{Edge, Graph, InRange, Query}
use Rattle.scope_graph.specs.Path.{Hop, Distinct, tos, last_from, Along, IsPath, Leads, word}
use Rattle.scope_graph.specs.Rows.{any_of}
use Rattle.scope_graph.specs.Computed.{keep, Node, hops_at, behind, hop_on, nodes_from, nodes}
use Rattle.scope_graph.proofs.Lists.{here, there, keep_intro, keep_elim, map_intro, map_elim, flat_map_intro, flat_map_elim}
use Rattle.scope_graph.proofs.Pigeon.{not_in, not_in_test, distinct_bounded}

module _ (L : Language) where
  -- the edge that a hop from a scope goes along
  edge_of : {es : List (Edge L)} {s : ℕ} {h : Hop L} (e : Edge L) → h ≡ record { step = e.step; to = e.to } → e.from ≡ s → e ∈ es
      → record { from = s; step = h.step; to = h.to } ∈ es
  edge_of e z w m = rw (z, ← w) m

  -- the hops at a scope are its edges
  pub hops_at_elim : {h : Hop L} (es : List (Edge L)) (s : ℕ) → h ∈ hops_at L es s → record { from = s; step = h.step; to = h.to } ∈ es
  unfolding hops_at
  hops_at_elim {h} es s m =
      let r = map_elim (λ e. record { step = e.step; to = e.to }) (keep (λ e. eqb e.from s) es) m in
      let k = keep_elim (λ (e : Edge L). eqb e.from s) es r.1 in
      edge_of r.0 r.2 (eqb-true r.0.from s k.1) k.0

  pub hops_at_intro : {e : Edge L} (es : List (Edge L)) → e ∈ es → record { step = e.step; to = e.to } ∈ hops_at L es e.from
  unfolding hops_at
  hops_at_intro {e} es m =
      map_intro (λ (e : Edge L). record { step = e.step; to = e.to })
      (keep_intro (λ d. eqb d.from e.from) m (eq-eqb e.from e.from refl))

  -- a place behind a hop: the hop comes to a new scope, the automaton goes on, and the place is one from there
  pub record Behind (enter : ℕ → ℕ → List (Node L)) (seen : List ℕ) (q : ℕ) (h : Hop L) (n : Node L) : Type 0 where
    pub new : ¬ (h.to ∈ seen)
    pub state : ℕ
    pub goes : L.next q (L.label h.step) ≡ some state
    pub rest : Node L
    pub found : rest ∈ enter h.to state
    pub is : n ≡ behind L h rest

  module _ (enter : ℕ → ℕ → List (Node L)) (seen : List ℕ) (q : ℕ) (h : Hop L) where
    pub hop_on_elim : {n : Node L} → n ∈ hop_on L enter seen q h → Behind enter seen q h n
    unfolding hop_on
    hop_on_elim {n} m = met (any_of (eqb h.to) seen) refl (L.next q (L.label h.step)) refl m
      where
        met : (b : Bool) → any_of (eqb h.to) seen ≡ b → (o : Option ℕ) → L.next q (L.label h.step) ≡ o
            → n ∈ (elim b as (λ _. List (Node L)) [
              | true ↦ []
              | false ↦ elim o as (λ _. List (Node L)) [ none ↦ [] | some r ↦ map (behind L h) (enter h.to r) ]
            ])
            → Behind enter seen q h n
        met true e o f k = absurd (Memᴰ.not-nil k)
        met false e none f k = absurd (Memᴰ.not-nil k)
        met false e (some r) f k =
            let b = map_elim (behind L h) (enter h.to r) k in
            record { new = not_in h.to seen e; state = r; goes = f; rest = b.0; found = b.1; is = b.2 }

    pub hop_on_intro : {n : Node L} {r : ℕ} → ¬ (h.to ∈ seen) → L.next q (L.label h.step) ≡ some r → n ∈ enter h.to r
        → behind L h n ∈ hop_on L enter seen q h
    unfolding hop_on
    hop_on_intro new e k = rw (not_in_test h.to seen new, hop_on, e) (map_intro (behind L h) k)

  -- what a place from a scope and a state is
  pub record From (g : Graph L) (fuel : ℕ) (seen : List ℕ) (s q : ℕ) (n : Node L) : Type 0 where
    pub along : Along L g s n.hops
    pub apart : Distinct (tos L n.hops)
    pub fresh : (t : ℕ) → t ∈ tos L n.hops → ¬ (t ∈ seen)
    pub leads : Leads L q (word L n.hops) n.state
    pub comes : last_from s n.hops ≡ n.at
    pub short : length n.hops < fuel

  module _ (g : Graph L) where
    -- one hop more in front, and one less
    longer : {fuel : ℕ} {seen : List ℕ} {s q r : ℕ} {h : Hop L} {n : Node L} → record { from = s; step = h.step; to = h.to } ∈ g.edges
        → ¬ (h.to ∈ seen) → L.next q (L.label h.step) ≡ some r → From g fuel (h.to ∷ seen) h.to r n
        → From g (suc fuel) seen s q (behind L h n)
    unfolding behind
    longer {seen = seen} {r = r} {h = h} {n = n} edge new e w = record {
      along = (edge, w.along);
      apart = ((λ m. w.fresh h.to m here), w.apart);
      fresh = λ t m k. ⊎_elim (λ z. new (Memᴰ.cast (sym z) k)) (λ z. w.fresh t z (there k)) (Memᴰ.cases_cons m);
      leads = (r, e, w.leads);
      comes = w.comes;
      short = let z = w.short in omega arith;
    }

    shorter : {fuel : ℕ} {seen : List ℕ} {s q at state : ℕ} {h : Hop L} {hops : List (Hop L)}
        → (w : From g (suc fuel) seen s q (record { hops = h ∷ hops; at = at; state = state }))
        → From g fuel (h.to ∷ seen) h.to w.leads.0 (record { hops = hops; at = at; state = state })
    shorter {h = h} w = record {
      along = w.along.1;
      apart = w.apart.1;
      fresh = λ t m k. ⊎_elim (λ z. w.apart.0 (Memᴰ.cast (sym z) m)) (λ z. w.fresh t (there m) z) (Memᴰ.cases_cons k);
      leads = w.leads.2;
      comes = w.comes;
      short = let z = w.short in omega arith;
    }

    -- what `nodes_from` lists, by induction on the number of hops
    pub from_sound : (fuel : ℕ) (seen : List ℕ) (s q : ℕ) {n : Node L} → n ∈ nodes_from L fuel g seen s q → From g fuel seen s q n
    unfolding nodes_from
    from_sound zero seen s q m = absurd (Memᴰ.not-nil m)
    from_sound (suc fuel) seen s q {n} m =
        ⊎_elim (λ e. subst (From g (suc fuel) seen s q) (sym e) ended)
        (further (λ t r n k. from_sound fuel (t ∷ seen) t r k)) (Memᴰ.cases_cons m)
      where
        ended : From g (suc fuel) seen s q (record { hops = []; at = s; state = q })
        ended = record
            { along = tt; apart = tt; fresh = λ t k. absurd (Memᴰ.not-nil k); leads = refl; comes = refl; short = omega arith }

        further : ((t r : ℕ) (n : Node L) → n ∈ nodes_from L fuel g (t ∷ seen) t r → From g fuel (t ∷ seen) t r n)
            → n ∈ flat_map (hop_on L (λ t r. nodes_from L fuel g (t ∷ seen) t r) seen q) (hops_at L g.edges s) → From g (suc fuel) seen s q n
        further ih k =
            let r = flat_map_elim (hop_on L (λ t r. nodes_from L fuel g (t ∷ seen) t r) seen q) (hops_at L g.edges s) k in
            let b = hop_on_elim (λ t r. nodes_from L fuel g (t ∷ seen) t r) seen q r.0 r.2 in
            subst (From g (suc fuel) seen s q) (sym b.is)
            (longer (hops_at_elim g.edges s r.1) b.new b.goes (ih r.0.to b.state b.rest b.found))

    pub from_complete : (fuel : ℕ) (seen : List ℕ) (s q : ℕ) (hops : List (Hop L)) {at state : ℕ}
        → From g fuel seen s q (record { hops = hops; at = at; state = state })
        → record { hops = hops; at = at; state = state } ∈ nodes_from L fuel g seen s q
    unfolding nodes_from behind
    from_complete zero seen s q hops w = absurd (let z = w.short in omega arith)
    from_complete (suc fuel) seen s q [] w = rw (w.comes, w.leads) here
    from_complete (suc fuel) seen s q (h ∷ hops) w =
        there
        (flat_map_intro (hop_on L (λ t r. nodes_from L fuel g (t ∷ seen) t r) seen q) (hops_at_intro g.edges w.along.0)
        (hop_on_intro (λ t r. nodes_from L fuel g (t ∷ seen) t r) seen q h (w.fresh h.to here) w.leads.1
        (from_complete fuel (h.to ∷ seen) h.to w.leads.0 hops (shorter w))))

  -- as many scopes as hops
  pub tos_length : (hops : List (Hop L)) → length (tos L hops) ≡ length hops
  tos_length [] = refl
  tos_length (h ∷ hops) = ap suc (tos_length hops)

  -- hops along edges come to scopes of the graph
  pub tos_bounded : (g : Graph L) → InRange L g → (s : ℕ) (hops : List (Hop L)) → Along L g s hops
      → (t : ℕ) → t ∈ tos L hops → t < g.scopes
  tos_bounded g range s [] a t m = absurd (Memᴰ.not-nil m)
  tos_bounded g range s (h ∷ hops) a t m =
      ⊎_elim (λ e. rw e (range.to_scope _ a.0)) (λ k. tos_bounded g range h.to hops a.1 t k) (Memᴰ.cases_cons m)

  -- what a place of the query is: a path comes to its scope and leads to its state
  pub record IsNode (g : Graph L) (q : Query L) (n : Node L) : Type 0 where
    pub path : IsPath L g (record { start = q.start; hops = n.hops })
    pub comes : last_from q.start n.hops ≡ n.at
    pub leads : Leads L 0 (word L n.hops) n.state

  module _ (g : Graph L) (q : Query L) (starts : q.start < g.scopes) where
    pub nodes_sound : {n : Node L} → n ∈ nodes L g q → IsNode g q n
    unfolding nodes
    nodes_sound {n} m =
        let w = from_sound g g.scopes (q.start ∷ []) q.start 0 m in
        record {
          path = record { starts = starts; along = w.along; simple = ((λ k. w.fresh q.start k here), w.apart) };
          comes = w.comes;
          leads = w.leads;
        }

    -- different scopes of the graph: no more than it has, so the search goes far enough
    pub path_short : InRange L g → (hops : List (Hop L)) → IsPath L g (record { start = q.start; hops = hops }) → length hops < g.scopes
    path_short range hops p =
        let k = distinct_bounded g.scopes (q.start ∷ tos L hops) p.simple below in
        omega (arith, tos_length hops)
      where
        below : (t : ℕ) → t ∈ (q.start ∷ tos L hops) → t < g.scopes
        below t m = ⊎_elim (λ e. rw e starts) (λ k. tos_bounded g range q.start hops p.along t k) (Memᴰ.cases_cons m)

    pub nodes_complete : InRange L g → (n : Node L) → IsNode g q n → n ∈ nodes L g q
    unfolding nodes
    nodes_complete range n i =
        from_complete g g.scopes (q.start ∷ []) q.start 0 n.hops
        (record {
          along = i.path.along;
          apart = i.path.simple.1;
          fresh = λ t m k. i.path.simple.0 (Memᴰ.cast (sym (Memᴰ.eq_of_singleton k)) m);
          leads = i.leads;
          comes = i.comes;
          short = path_short range n.hops i.path;
        })

    pub nodes_are : InRange L g → (n : Node L) → (n ∈ nodes L g q) ↔ IsNode g q n
    nodes_are range n = (nodes_sound, nodes_complete range n)
