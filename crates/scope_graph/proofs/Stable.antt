-- Proves specs/Stable (02, K10): while rows are added at open pairs and pairs are closed, a settled
-- query keeps its listing. Assumes nothing.
use Prim.Native.Nat.{ℕ, ◌≤◌}
use native.Mathlib.Omega.{arith}
use mathlib.Core.Path.{◌≡◌, refl, sym, ap, subst}
use mathlib.Core.Logic.{◌⊎◌, inl, inr, ⊎_elim}
use mathlib.Core.Option.{none}
use mathlib.Core.List.{List, [], ◌∷◌, map}
use Rattle.scope_graph.specs.Language.{◌∈◌, End, stop, by, Language, Laws}
use Rattle.scope_graph.specs.Graph.{Edge, Declaration, Graph, InRange, Query, OpenPair}
use Rattle.scope_graph.specs.Path.{Hop, PathRow, row_declaration}
use Rattle.scope_graph.specs.Completion.{AtOne, Completion, SameEntries, Settled}
use Rattle.scope_graph.specs.Computed.{found_of, entries, found, awaits}
use Rattle.scope_graph.specs.Listing.{HopBefore, HopsBefore, RowBefore, Accepted}
use Rattle.scope_graph.specs.Stable.{Within, Snapshot, Act, add_edge, add_declaration, close, EdgeAdded, DeclarationAdded, Applied, Replayed, SameListing, Grows, Stable}
use Rattle.scope_graph.proofs.Sequences.{one_sequence}
use Rattle.scope_graph.proofs.Ascend.{hops_irreflexive}
use Rattle.scope_graph.proofs.Promises.{query}

module _ (L : Language) where
  -- of two rows at most one comes before the other
  hop_once : (h k : Hop L) → HopBefore L h k → HopBefore L k h → ⊥
  hop_once h k (inl a) (inl b) = omega arith
  hop_once h k (inl a) (inr b) = omega (arith, b.0)
  hop_once h k (inr a) (inl b) = omega (arith, a.0)
  hop_once h k (inr a) (inr b) = omega (arith, a.1, b.1)

  hops_once : (r p : List (Hop L)) → HopsBefore L r p → HopsBefore L p r → ⊥
  hops_once [] [] h k = h
  hops_once [] (x ∷ p) h k = k
  hops_once (x ∷ r) [] h k = h
  hops_once (x ∷ r) (y ∷ p) (inl h) (inl k) = hop_once x y h k
  hops_once (x ∷ r) (y ∷ p) (inl h) (inr k) = let z = subst (HopBefore L x) k.0 h in hop_once x x z z
  hops_once (x ∷ r) (y ∷ p) (inr h) (inl k) = let z = subst (HopBefore L y) h.0 k in hop_once y y z z
  hops_once (x ∷ r) (y ∷ p) (inr h) (inr k) = hops_once r p h.1 k.1

  pub row_once : (r p : PathRow L) → RowBefore L r p → RowBefore L p r → ⊥
  row_once r p (inl h) (inl k) = hops_once r.path.hops p.path.hops h k
  row_once r p (inl h) (inr k) = hops_irreflexive L r.path.hops (rw k.0 at h)
  row_once r p (inr h) (inl k) = hops_irreflexive L p.path.hops (rw h.0 at k)
  row_once r p (inr h) (inr k) = omega (arith, h.1, k.1)

  -- a completion of a completion
  completion_then : (opens fewer : List (OpenPair L)) → Within fewer opens → (g h k : Graph L)
      → Completion L opens g h → Completion L fewer h k → Completion L opens g k
  completion_then opens fewer sub g h k a b = record {
    scopes_kept = omega (arith, a.scopes_kept, b.scopes_kept);
    edges_kept = λ e m. b.edges_kept e (a.edges_kept e m);
    declarations_kept = λ d m. b.declarations_kept d (a.declarations_kept d m);
    new_edge = λ e m. ⊎_elim (a.new_edge e) (λ w. inr (old e.from (by e.step) w)) (b.new_edge e m);
    new_declaration = λ d m. ⊎_elim (a.new_declaration d) (λ w. inr (old d.at stop w)) (b.new_declaration d m);
    in_range = b.in_range;
  }
    where
      -- wherever the second completion adds a row, the first could have
      old : (s : ℕ) (e : End L.Step) → (h.scopes ≤ s) ⊎ AtOne L fewer s e → (g.scopes ≤ s) ⊎ AtOne L opens s e
      old s e (inl z) = inl (omega (arith, a.scopes_kept))
      old s e (inr z) = inr (z.0, sub z.0 z.1, z.2)

  grows_on : (s t u : Snapshot L) → Grows L s t → Grows L t u → Grows L s u
  grows_on s t u a b =
      (completion_then s.opens t.opens a.1 s.graph t.graph u.graph a.0 b.0, λ o m. a.1 o (b.1 o m))

  stays : (q : Query L) (s t : Snapshot L) → Settled L s.graph s.opens q → Grows L s t
      → SameEntries L q s.graph t.graph × Settled L t.graph t.opens q
  stays q s t settled f = (
    settled t.graph f.0,
    λ k c r.
        let one = settled t.graph f.0 r in
        let two = settled k (completion_then s.opens t.opens f.1 s.graph t.graph k f.0 c) r in
        (λ e. two.0 (one.1 e), λ e. one.0 (two.1 e)),
  )

  same_found : (q : Query L) (g h : Graph L) → entries L g q ≡ entries L h q → found L g q ≡ found L h q
  unfolding found
  same_found q g h e = ap (λ (es : List (PathRow L)). found_of L (map (row_declaration L q) es)) e

  same_listing : (q : Query L) (s t : Snapshot L) → Accepted L s.graph s.opens q → Accepted L t.graph t.opens q
      → awaits L s.graph q s.opens ≡ none → Grows L s t → SameListing L q s t
  same_listing q s t a b w f =
      let p = query L s.graph s.opens q a in
      let r = query L t.graph t.opens q b in
      let k = stays q s t (p.awaits_none.0 w) f in
      let e = one_sequence (RowBefore L) row_once (entries L s.graph q) (entries L t.graph q) p.entries_ascend r.entries_ascend
      (λ x. (
        λ m. (r.entries_are x).1 ((k.0 x).0 ((p.entries_are x).0 m)),
        λ m. (p.entries_are x).1 ((k.0 x).1 ((r.entries_are x).0 m)),
      )) in
      record { rows = e; word = same_found q s.graph t.graph e; settled_first = w; settled_then = r.awaits_none.1 k.1 }

  -- a graph completes itself
  self_grows : (s : Snapshot L) → InRange L s.graph → Grows L s s
  self_grows s range = (
    record {
      scopes_kept = omega arith;
      edges_kept = λ e m. m;
      declarations_kept = λ d m. m;
      new_edge = λ e m. inl m;
      new_declaration = λ d m. inl m;
      in_range = range;
    },
    λ o m. m,
  )

  -- each act makes the graph grow
  module _ (laws : Laws L) where
    edge_grows : (e : Edge L) (s t : Snapshot L) → InRange L s.graph → EdgeAdded L e s t → Grows L s t
    edge_grows e s t range c = (
      record {
        scopes_kept = omega (arith, c.scopes);
        edges_kept = λ f m. (c.edges f).1 (inr m);
        declarations_kept = λ d m. rw c.declarations m;
        new_edge = λ f m. ⊎_elim (λ z. inr (inr (at f z))) (λ z. inl z) ((c.edges f).0 m);
        new_declaration = λ d m. inl (rw c.declarations at m);
        in_range = record {
          from_scope = λ f m. rw c.scopes (⊎_elim (λ z. rw z c.from_scope) (range.from_scope f) ((c.edges f).0 m));
          to_scope = λ f m. rw c.scopes (⊎_elim (λ z. rw z c.to_scope) (range.to_scope f) ((c.edges f).0 m));
          listed = λ f m. ⊎_elim (λ z. rw z c.listed) (range.listed f) ((c.edges f).0 m);
          carried = λ f m. ⊎_elim (λ z. rw z c.carried) (range.carried f) ((c.edges f).0 m);
          at_scope = λ d m. rw c.scopes (range.at_scope d (rw c.declarations at m));
          together = λ f k m n. side f k ((c.edges f).0 m) ((c.edges k).0 n);
        };
      },
      λ o m. rw c.opens at m,
    )
      where
        at : (f : Edge L) → f ≡ e → AtOne L s.opens f.from (by f.step)
        at f z = rw z (record { at = e.from; end = by (L.label e.step) }, c.is_open, (refl, (refl, c.carried)))

        side : (f k : Edge L) → (f ≡ e) ⊎ (f ∈ s.graph.edges) → (k ≡ e) ⊎ (k ∈ s.graph.edges)
            → f.from ≡ k.from → f.to ≡ k.to → L.Together f.step k.step
        side f k (inl a) (inl b) x y = rw (a, b) (laws.together_self e.step)
        side f k (inl a) (inr n) x y = rw a (c.beside k n (rw a at x) (rw a at y)).0
        side f k (inr m) (inl b) x y = rw b (c.beside f m (sym (rw b at x)) (sym (rw b at y))).1
        side f k (inr m) (inr n) x y = range.together f k m n x y

    declaration_grows : (d : Declaration L) (s t : Snapshot L) → InRange L s.graph → DeclarationAdded L d s t → Grows L s t
    declaration_grows d s t range c = (
      record {
        scopes_kept = omega (arith, c.scopes);
        edges_kept = λ f m. rw c.edges m;
        declarations_kept = λ k m. (c.declarations k).1 (inr m);
        new_edge = λ f m. inl (rw c.edges at m);
        new_declaration = λ k m. ⊎_elim (λ z. inr (inr (at k z))) (λ z. inl z) ((c.declarations k).0 m);
        in_range = record {
          from_scope = λ f m. rw c.scopes (range.from_scope f (rw c.edges at m));
          to_scope = λ f m. rw c.scopes (range.to_scope f (rw c.edges at m));
          listed = λ f m. range.listed f (rw c.edges at m);
          carried = λ f m. range.carried f (rw c.edges at m);
          at_scope = λ k m. rw c.scopes (⊎_elim (λ z. rw z c.at_scope) (range.at_scope k) ((c.declarations k).0 m));
          together = λ f k m n. range.together f k (rw c.edges at m) (rw c.edges at n);
        };
      },
      λ o m. rw c.opens at m,
    )
      where
        at : (k : Declaration L) → k ≡ d → AtOne L s.opens k.at stop
        at k z = rw z (record { at = d.at; end = stop }, c.is_open, (refl, tt))

    act_grows : (a : Act L) (s t : Snapshot L) → InRange L s.graph → Applied L a s t → Grows L s t
    act_grows (add_edge e) s t range c = edge_grows e s t range c
    act_grows (add_declaration d) s t range c = declaration_grows d s t range c
    act_grows (close o) s t range c = (
      rw c.graph (self_grows s range).0,
      λ x m. ((c.opens x).0 m).1,
    )

    replay_grows : (acts : List (Act L)) (s t : Snapshot L) → InRange L s.graph → Replayed L acts s t → Grows L s t
    replay_grows [] s t range e = rw (← e) (self_grows s range)
    replay_grows (a ∷ acts) s t range w =
        let f = act_grows a s w.0 range w.1 in
        grows_on s w.0 t f (replay_grows acts w.0 t f.0.in_range w.2)

pub stable : Stable
stable L laws = record {
  completion_then = completion_then L;
  grows_on = grows_on L;
  stays = stays L;
  same_listing = same_listing L;
  act_grows = act_grows L laws;
  replay_grows = replay_grows L laws;
  accepted_then = λ q s t a f e d o. record {
    laws = laws;
    in_range = f.0.in_range;
    edges_ascend = e;
    declarations_ascend = d;
    opens_ascend = o;
    starts = omega (arith, a.starts, f.0.scopes_kept);
  };
  replay_same = λ acts q s t a b w e. same_listing L q s t a b e (replay_grows L laws acts s t a.in_range w);
}
