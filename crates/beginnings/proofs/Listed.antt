-- The listed beginnings are exactly the lawful ones, each once; and they are few where every scope
-- has one edge for the automaton. Assumes nothing.
use Prim.Native.Nat.{ℕ, zero, suc, ◌≤◌, ◌<◌}
use mathlib.Core.Path.{◌≡◌, refl, sym, ap, subst}
use mathlib.Core.Bool.{Bool, true, false, not, ◌&&◌}
use mathlib.Core.Logic.{inl, inr}
use mathlib.Core.Option.{Option, some, none}
use mathlib.Core.List.{List, [], ◌∷◌, ◌++◌, map, flat_map}
use native.Mathlib.Omega.{arith}
use lib.Dec.{eqb}
use lib.ListN.{length, length-append, length-map}
use borrow.Author.Tests.{eqb-true}
use Rattle.scope_graph.specs.Language.{◌∈◌, by, Language, Laws}
use Rattle.scope_graph.specs.Graph.{Edge, Graph, InRange, Query}
use Rattle.scope_graph.specs.Path.{Hop, last_from}
use Rattle.scope_graph.specs.Rows.{any_of}
use Rattle.scope_graph.specs.Computed.{keep, Node, hops_at, behind, hop_on, nodes_from, nodes, leads_on}
use Rattle.scope_graph.specs.Listing.{Pairwise, EdgeBefore}
use Rattle.scope_graph.proofs.Lists.{here, there, true_false, not_is, is_not, and_left, and_right, and_both, keep_intro, keep_elim, keep_pairwise, map_intro, map_elim, map_pairwise, pairwise_weaken, flat_map_elim, flat_map_pairwise}
use Rattle.scope_graph.proofs.LeadsOn.{leads_on_sound, leads_on_complete}
use Rattle.scope_graph.proofs.Nodes.{Behind, hops_at_elim, hop_on_elim, nodes_sound, nodes_complete}
use Rattle.search.proofs.RulesLists.{flat_map_no}
use Rattle.beginnings.specs.Beginnings.{Beginning, Occurs, OneEdge, cut_before, beginnings}
use Rattle.beginnings.specs.Promises.{BeginningsAre, EachOnce, FewWhereOneEdge}
use Rattle.beginnings.proofs.StepCuts.{uncut_is}

-- no more are kept than there were
keep_few : {A : Type 0} (f : A → Bool) (l : List A) → length (keep f l) ≤ length l
unfolding keep
keep_few f [] = omega arith
keep_few {A} f (x ∷ l) = step (f x) (keep_few f l)
  where
    step : (b : Bool) → length (keep f l) ≤ length l
        → length {A = A} (elim b as (λ _. List A) [ true ↦ x ∷ keep f l | false ↦ keep f l ]) ≤ suc (length l)
    step true h = omega arith
    step false h = omega arith

none_in : {A : Type 0} (l : List A) → ((x : A) → ¬ (x ∈ l)) → l ≡ []
none_in [] h = refl
none_in (x ∷ l) h = absurd (h x here)

-- where at most one of different elements gives anything, all of them give no more than one does
one_gives : {A B : Type 0} (f : A → List B) (n : ℕ) (l : List A) → Pairwise (λ (a b : A). ¬ (a ≡ b)) l
    → ((a : A) → a ∈ l → length (f a) ≤ n)
    → ((a b : A) (x y : B) → a ∈ l → b ∈ l → x ∈ f a → y ∈ f b → a ≡ b)
    → length (flat_map f l) ≤ n
unfolding flat_map
one_gives f n [] apart short one = omega arith
one_gives {A} {B} f n (a ∷ l) apart short one =
    given (f a) refl (one_gives f n l apart.1 (λ b m. short b (there m)) (λ b c x y m k. one b c x y (there m) (there k)))
  where
    given : (l0 : List B) → f a ≡ l0 → length (flat_map f l) ≤ n → length (f a ++ flat_map f l) ≤ n
    given [] e h = rw e h
    given (x ∷ xs) e h =
        let rest : flat_map f l ≡ [] =
        flat_map_no f l (λ b m. none_in (f b) (λ y k. apart.0 b m (one a b x y here (there m) (rw e here) k))) in
        let own : length (f a) ≤ n = short a here in
        rw rest (omega (arith, length-append (f a) []))

module _ (L : Language) where
  -- two rows of one scope, one before the other, have different hops
  edge_apart : Laws L → (s : ℕ) (e f : Edge L) → e.from ≡ s → f.from ≡ s → EdgeBefore L e f
      → ¬ (◌≡◌ {A = Hop L} (record { step = e.step; to = e.to }) (record { step = f.step; to = f.to }))
  edge_apart laws s e f a b (inl h) z = omega arith
  edge_apart laws s e f a b (inr (_, inl h)) z =
      let same : L.label e.step ≡ L.label f.step = ap (λ (h : Hop L). L.label h.step) z in
      omega arith
  edge_apart laws s e f a b (inr (_, inr (_, inl h))) z =
      let same : e.step ≡ f.step = ap (λ (h : Hop L). h.step) z in
      true_false h (rw same (laws.irreflexive (by f.step)))
  edge_apart laws s e f a b (inr (_, inr (_, inr h))) z =
      let same : e.to ≡ f.to = ap (λ (h : Hop L). h.to) z in
      let less = h.1 in
      omega arith

  hops_apart : Laws L → (es : List (Edge L)) (s : ℕ) → Pairwise (EdgeBefore L) es → Pairwise (λ (h k : Hop L). ¬ (h ≡ k)) (hops_at L es s)
  unfolding hops_at
  hops_apart laws es s h =
      map_pairwise (λ (h k : Hop L). ¬ (h ≡ k)) (λ e. record { step = e.step; to = e.to }) (keep leaving es)
      (pairwise_weaken (EdgeBefore L) _ (keep leaving es)
      (λ e f m k. edge_apart laws s e f (leaves e m) (leaves f k)) (keep_pairwise (EdgeBefore L) leaving es h))
    where
      leaving : Edge L → Bool
      leaving e = eqb e.from s

      leaves : (e : Edge L) → e ∈ keep leaving es → e.from ≡ s
      leaves e m = eqb-true e.from s (keep_elim leaving es m).1

  abbrev Apart : Node L → Node L → Type 0
  Apart n m = ¬ (n.hops ≡ m.hops)

  -- what is behind a hop, where `enter` says it of a scope and a state
  module _ (enter : ℕ → ℕ → List (Node L)) (seen : List ℕ) (q : ℕ) (h : Hop L) where
    behind_apart : ((t r : ℕ) → Pairwise Apart (enter t r)) → Pairwise Apart (hop_on L enter seen q h)
    unfolding hop_on behind
    behind_apart up = met (any_of (eqb h.to) seen) (L.next q (L.label h.step))
      where
        met : (b : Bool) (o : Option ℕ)
            → Pairwise Apart (elim b as (λ _. List (Node L)) [
              | true ↦ []
              | false ↦ elim o as (λ _. List (Node L)) [ none ↦ [] | some r ↦ map (behind L h) (enter h.to r) ]
            ])
        met true o = tt
        met false none = tt
        met false (some r) =
            map_pairwise Apart (behind L h) (enter h.to r)
            (pairwise_weaken Apart _ (enter h.to r) (λ a b _ _ k z. k (cc)) (up h.to r))

    behind_short : (n : ℕ) → ((t r : ℕ) → length (enter t r) ≤ n) → length (hop_on L enter seen q h) ≤ n
    unfolding hop_on
    behind_short n up = met (any_of (eqb h.to) seen) (L.next q (L.label h.step))
      where
        met : (b : Bool) (o : Option ℕ)
            → length {A = Node L} (elim b as (λ _. List (Node L)) [
              | true ↦ []
              | false ↦ elim o as (λ _. List (Node L)) [ none ↦ [] | some r ↦ map (behind L h) (enter h.to r) ]
            ]) ≤ n
        met true o = omega arith
        met false none = omega arith
        met false (some r) = rw (length-map (enter h.to r) (behind L h)) (up h.to r)

  module _ {enter : ℕ → ℕ → List (Node L)} {seen : List ℕ} {q : ℕ} where
    ended_apart : {n : Node L} (h : Hop L) → Behind L enter seen q h n → ¬ ([] ≡ n.hops)
    unfolding behind
    ended_apart h b = rw b.is (λ z. let y : ◌≡◌ {A = ℕ} 0 1 = cc in omega arith)

    hop_apart : {n m : Node L} (h k : Hop L) → Behind L enter seen q h n → Behind L enter seen q k m → ¬ (h ≡ k) → Apart n m
    unfolding behind
    hop_apart h k b c f = rw (b.is, c.is) (λ z. f (cc))

  module _ (laws : Laws L) (g : Graph L) (edges_ascend : Pairwise (EdgeBefore L) g.edges) where
    from_apart : (fuel : ℕ) (seen : List ℕ) (s q : ℕ) → Pairwise Apart (nodes_from L fuel g seen s q)
    unfolding nodes_from
    from_apart zero seen s q = tt
    from_apart (suc fuel) seen s q = (
      (λ y m. let r = flat_map_elim on (hops_at L g.edges s) m in ended_apart r.0 (split r.0 r.2)),
      flat_map_pairwise (λ (h k : Hop L). ¬ (h ≡ k)) Apart on (hops_at L g.edges s) (hops_apart laws g.edges s edges_ascend)
          (λ h. behind_apart _ seen q h (λ t r. from_apart fuel (t ∷ seen) t r))
          (λ h k x y b m o. hop_apart h k (split h m) (split k o) b),
    )
      where
        on : Hop L → List (Node L)
        on = hop_on L (λ t r. nodes_from L fuel g (t ∷ seen) t r) seen q

        split : (h : Hop L) {n : Node L} → n ∈ on h → Behind L (λ t r. nodes_from L fuel g (t ∷ seen) t r) seen q h n
        split h m = hop_on_elim L (λ t r. nodes_from L fuel g (t ∷ seen) t r) seen q h m

    -- with one edge for the automaton at each scope the places form one chain
    module _ (one : OneEdge L g) where
      from_few : (fuel : ℕ) (seen : List ℕ) (s q : ℕ) → length (nodes_from L fuel g seen s q) ≤ fuel
      unfolding nodes_from
      from_few zero seen s q = omega arith
      from_few (suc fuel) seen s q =
          let rest =
          one_gives on fuel (hops_at L g.edges s) (hops_apart laws g.edges s edges_ascend)
          (λ h m. behind_short _ seen q h fuel (λ t r. from_few fuel (t ∷ seen) t r)) same in
          omega arith
        where
          on : Hop L → List (Node L)
          on = hop_on L (λ t r. nodes_from L fuel g (t ∷ seen) t r) seen q

          used : (h : Hop L) (n : Node L) → n ∈ on h → Occurs L (L.label h.step)
          used h n m =
              let b = hop_on_elim L (λ t r. nodes_from L fuel g (t ∷ seen) t r) seen q h m in
              (q, b.state, b.goes)

          same : (h k : Hop L) (x y : Node L) → h ∈ hops_at L g.edges s → k ∈ hops_at L g.edges s → x ∈ on h → y ∈ on k → h ≡ k
          same h k x y m o i j =
              ap (λ (e : Edge L). record { step = e.step; to = e.to })
              (one (record { from = s; step = h.step; to = h.to }) (record { from = s; step = k.step; to = k.to })
              (hops_at_elim L g.edges s m) (hops_at_elim L g.edges s o) refl (used h x i) (used k y j))

  module _ (g : Graph L) (q : Query L) where
    lawful : Node L → Bool
    lawful n = leads_on L L.states n.state && not (cut_before L g q n.hops)

    module _ (laws : Laws L) (range : InRange L g) (starts : q.start < g.scopes) where
      to : (p : List (Hop L)) → p ∈ map (λ (n : Node L). n.hops) (beginnings L g q) → Beginning L g q p
      unfolding beginnings lawful
      to p m =
          let k = map_elim (λ (n : Node L). n.hops) (beginnings L g q) m in
          let n = k.0 in
          let b = keep_elim lawful (nodes L g q) k.1 in
          let w = nodes_sound L g q starts b.0 in
          let h = leads_on_sound L L.states n.state (and_left _ _ b.1) in
          subst (Beginning L g q) (sym k.2) (record {
            path = w.path;
            state = n.state;
            leads = w.leads;
            rest = h.0;
            final = h.1;
            leads_on = h.2;
            accepted = h.3;
            uncut = (uncut_is L laws g q range starts n.hops).0 (not_is _ (and_right (leads_on L L.states n.state) _ b.1));
          })

      from : (p : List (Hop L)) → Beginning L g q p → p ∈ map (λ (n : Node L). n.hops) (beginnings L g q)
      unfolding beginnings lawful
      from p b =
          let n : Node L = record { hops = p; at = last_from q.start p; state = b.state } in
          map_intro (λ (n : Node L). n.hops) {a = n}
          (keep_intro lawful (nodes_complete L g q starts range n (record { path = b.path; comes = refl; leads = b.leads }))
          (and_both _ _ (leads_on_complete L laws b.state (b.rest, b.final, b.leads_on, b.accepted))
          (is_not _ ((uncut_is L laws g q range starts p).1 b.uncut))))

pub beginnings_are : BeginningsAre
beginnings_are L g opens q a p = (to L g q a.laws a.in_range a.starts p, from L g q a.laws a.in_range a.starts p)

pub each_once : EachOnce
unfolding beginnings nodes lawful
each_once L g opens q a =
    keep_pairwise (Apart L) (lawful L g q) (nodes L g q) (from_apart L a.laws g a.edges_ascend g.scopes (q.start ∷ []) q.start 0)

pub few : FewWhereOneEdge
unfolding beginnings nodes lawful
few L g opens q a one =
    let all = from_few L a.laws g a.edges_ascend one g.scopes (q.start ∷ []) q.start 0 in
    let kept = keep_few (lawful L g q) (nodes L g q) in
    omega arith
