-- The computed `followed_at` says whether an open pair is followed. Assumes nothing.
use Prim.Native.Nat.{ℕ, ◌<◌}
use mathlib.Core.Path.{◌≡◌, refl, ◌∙◌}
use mathlib.Core.Bool.{Bool, true, not, ◌&&◌}
use mathlib.Core.Logic.{◌↔◌, inl, inr}
use mathlib.Core.List.{List, [], ◌∷◌, map}
use lib.Dec.{eqb}
use borrow.Author.Tests.{eqb-true, eq-eqb}
use Rattle.scope_graph.specs.Language.{End, stop, by, Language, Laws}
use Rattle.scope_graph.specs.Graph.{Graph, InRange, Query, OpenPair, Admits}
use Rattle.scope_graph.specs.Path.{Hop, Along, Reached}
use Rattle.scope_graph.specs.Followed.{Preferred, Usable, FollowedAt}
use Rattle.scope_graph.specs.Computed.{Node, nodes, usable, cut, open_end, followed_at}
use Rattle.scope_graph.proofs.Lists.{not_is, is_not, and_left, and_right, and_both, any_of_intro, any_of_elim, map_intro}
use Rattle.scope_graph.proofs.Nodes.{nodes_sound, nodes_complete}
use Rattle.scope_graph.proofs.Cut.{uncut_is}
use Rattle.scope_graph.proofs.LeadsOn.{usable_is}

module _ (L : Language) (laws : Laws L) (g : Graph L) (q : Query L) (range : InRange L g) (starts : q.start < g.scopes) where
  steps : List L.Step
  steps = map (λ e. e.step) g.edges

  -- what is preferred to the strongest step of a label is preferred to every step of it
  stronger : (r p : List (Hop L)) (s : ℕ) (t : L.Step) → Along L g s r
      → Preferred L r p (by (L.strongest steps (L.label t))) → Preferred L r p (by t)
  unfolding steps
  stronger [] [] s t a k = laws.strongest_stop steps t k
  stronger [] (x ∷ p) s t a k = k
  stronger (h ∷ r) [] s t a k = laws.strongest_by steps t h.step (map_intro (λ e. e.step) a.0) k
  stronger (h ∷ r) (x ∷ p) s t a (inl k) = inl k
  stronger (h ∷ r) (x ∷ p) s t a (inr k) = inr (k.0, stronger r p h.to t a.1 k.1)

  admitted : (e : End ℕ) → Admits L e (open_end L g q e)
  unfolding open_end
  admitted stop = tt
  admitted (by l) = (laws.strongest_label _ l, laws.strongest_carried _ l)

  -- the end that stands for an open place is usable where any end that may come there is, and cut
  -- only where all are
  usable_open : (s : ℕ) (o : End ℕ) (e : End L.Step) → Admits L o e → Usable L s e → Usable L s (open_end L g q o)
  unfolding open_end
  usable_open s stop stop a u = u
  usable_open s stop (by t) a u = absurd a
  usable_open s (by l) stop a u = absurd a
  usable_open s (by l) (by t) a u = (u.0, rw (laws.strongest_label _ l, ← a.0) u.1, u.2, u.3, u.4, u.5)

  uncut_open : (p : List (Hop L)) (o : End ℕ) (e : End L.Step) → Admits L o e
      → ((r : List (Hop L)) → Reached L g q (record { start = q.start; hops = r }) → ¬ Preferred L r p e)
      → (r : List (Hop L)) → Reached L g q (record { start = q.start; hops = r }) → ¬ Preferred L r p (open_end L g q o)
  unfolding open_end steps
  uncut_open p stop stop a u = u
  uncut_open p stop (by t) a u = absurd a
  uncut_open p (by l) stop a u = absurd a
  uncut_open p (by l) (by t) a u = λ r k m. u r k (stronger r p q.start t k.path.along (rw a.0 m))

  test : OpenPair L → Node L → Bool
  test o n = eqb n.at o.at && (usable L n.state (open_end L g q o.end) && not (cut L g q n.hops (open_end L g q o.end)))

  to : (o : OpenPair L) → followed_at L g q o ≡ true → FollowedAt L g q o
  unfolding followed_at test
  to o h =
      let k = any_of_elim (test o) (nodes L g q) h in
      let n = k.0 in
      let e = open_end L g q o.end in
      let b = and_right (eqb n.at o.at) _ k.2 in
      let w = nodes_sound L g q starts k.1 in (
        e,
        admitted o.end,
        record {
          hops = n.hops;
          path = w.path;
          comes = w.comes ∙ eqb-true n.at o.at (and_left _ _ k.2);
          state = n.state;
          leads = w.leads;
          usable = (usable_is L laws n.state e).0 (and_left _ _ b);
          uncut = (uncut_is L laws g q range starts n.hops e).0 (not_is _ (and_right (usable L n.state e) _ b));
        },
      )

  from : (o : OpenPair L) → FollowedAt L g q o → followed_at L g q o ≡ true
  unfolding followed_at test
  from o w =
      let f = w.2 in
      let n : Node L = record { hops = f.hops; at = o.at; state = f.state } in
      let e = open_end L g q o.end in
      any_of_intro (test o) (nodes_complete L g q starts range n (record { path = f.path; comes = f.comes; leads = f.leads }))
      (and_both _ _ (eq-eqb o.at o.at refl)
      (and_both _ _ ((usable_is L laws f.state e).1 (usable_open f.state o.end w.0 w.1 f.usable))
      (is_not _ ((uncut_is L laws g q range starts f.hops e).1 (uncut_open f.hops o.end w.0 w.1 f.uncut)))))

  pub followed_is : (o : OpenPair L) → (followed_at L g q o ≡ true) ↔ FollowedAt L g q o
  followed_is o = (to o, from o)
