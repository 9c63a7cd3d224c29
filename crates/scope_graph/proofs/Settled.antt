-- Decisive is open and followed, settled is that no pair is decisive, and the computed `awaits` is
-- the first decisive pair. Assumes nothing; the parameters are those of Changes, and that
-- *followed* is computed.
use Prim.Native.Nat.{ℕ, ◌<◌}
use native.Mathlib.Omega.{arith}
use mathlib.Core.Path.{◌≡◌, refl}
use mathlib.Core.Bool.{true}
use mathlib.Core.Option.{Option, some, none}
use mathlib.Core.Logic.{◌↔◌, inl, inr, ⊎_elim}
use mathlib.Core.List.{List}
use Rattle.scope_graph.specs.Language.{◌∈◌, End, stop, by, Language, Laws}
use Rattle.scope_graph.specs.Graph.{Graph, InRange, Query, OpenPair, Admits}
use Rattle.scope_graph.specs.Path.{Hop, PathRow, Reached, Entry}
use Rattle.scope_graph.specs.Completion.{Extension, At, AtOne, Decisive, Settled, EndBefore, PairBefore, Awaits}
use Rattle.scope_graph.specs.Followed.{Preferred, FollowedAt}
use Rattle.scope_graph.specs.Computed.{first_of, followed_at, awaits}
use Rattle.scope_graph.specs.Listing.{Pairwise}
use Rattle.scope_graph.proofs.Lists.{true_false, first_of_some, first_of_none}
use Rattle.scope_graph.proofs.Changes.{route, same_or_followed}
use Rattle.scope_graph.proofs.Witness.{MayCome, followed_changes}

end_once : (a b : End ℕ) → EndBefore a b → EndBefore b a → ⊥
end_once stop stop h k = h
end_once stop (by l) h k = k
end_once (by l) stop h k = h
end_once (by l) (by k) h m = omega arith

module _ (L : Language) where
  -- one open pair does not come before another and after it too
  pair_once : (o r : OpenPair L) → PairBefore L o r → PairBefore L r o → ⊥
  pair_once o r (inl h) (inl k) = omega arith
  pair_once o r (inl h) (inr k) = let e = k.0 in omega arith
  pair_once o r (inr h) (inl k) = let e = h.0 in omega arith
  pair_once o r (inr h) (inr k) = end_once o.end r.end h.1 k.1

  -- what may come at one pair may come at one of the pairs
  wider : (opens : List (OpenPair L)) (o : OpenPair L) → o ∈ opens → (g h : Graph L) → Extension L (At L o) g h → Extension L (AtOne L opens) g h
  wider opens o m g h x = record {
    scopes_kept = x.scopes_kept;
    edges_kept = x.edges_kept;
    declarations_kept = x.declarations_kept;
    new_edge = λ e k. ⊎_elim (λ w. inl w) (λ w. inr (⊎_elim (λ z. inl z) (λ z. inr (o, m, z)) w)) (x.new_edge e k);
    new_declaration = λ d k. ⊎_elim (λ w. inl w) (λ w. inr (⊎_elim (λ z. inl z) (λ z. inr (o, m, z)) w)) (x.new_declaration d k);
    in_range = x.in_range;
  }

  module _ (laws : Laws L) (g : Graph L) (opens : List (OpenPair L)) (q : Query L)
      (decided : (r p : List (Hop L)) → Dec (Preferred L r p stop))
      (reached_list : (g : Graph L) → InRange L g → q.start < g.scopes
      → (rs : List (List (Hop L))) × ((r : List (Hop L)) → (r ∈ rs) ↔ Reached L g q (route L laws q r)))
      (entry_list : (g : Graph L) → InRange L g → q.start < g.scopes
      → (rs : List (PathRow L)) × ((r : PathRow L) → (r ∈ rs) ↔ Entry L g q r))
      (range : InRange L g) (starts : q.start < g.scopes) where
    pub may_come : (o : End ℕ) (e : End L.Step) → Admits L o e → MayCome L laws q decided reached_list entry_list g range starts e
    may_come stop stop a = tt
    may_come stop (by t) a = absurd a
    may_come (by l) stop a = absurd a
    may_come (by l) (by t) a = a.1

    pub decisive : (o : OpenPair L) → Decisive L g opens q o ↔ ((o ∈ opens) × FollowedAt L g q o)
    decisive o = (to, from)
      where
        to : Decisive L g opens q o → (o ∈ opens) × FollowedAt L g q o
        to d = (
          d.stands,
          ⊎_elim (λ same. absurd (d.differs same)) (λ w. (w.1, w.2.1, rw w.2.0 w.3))
              (same_or_followed L laws q decided reached_list entry_list (At L o) g d.completion range starts d.at_pair),
        )

        from : (o ∈ opens) × FollowedAt L g q o → Decisive L g opens q o
        from w =
            let c = followed_changes L laws q decided reached_list entry_list g range starts (At L o) o.at w.1.0 (refl, w.1.1) (may_come o.end w.1.0 w.1.1) w.1.2 in
            record { stands = w.0; completion = c.0; at_pair = c.1; differs = c.2 }

    pub settled : Settled L g opens q ↔ ((o : OpenPair L) → ¬ Decisive L g opens q o)
    settled = (
      λ s o d. d.differs (s d.completion (wider opens o d.stands g d.completion d.at_pair)),
      λ n h x. ⊎_elim (λ same. same)
          (λ w. absurd (n w.2.0 ((decisive w.2.0).1 (w.2.1, (w.1, w.2.2.1, rw w.2.2.0 w.3)))))
          (same_or_followed L laws q decided reached_list entry_list (AtOne L opens) g h range starts x),
    )

    module _ (followed : (o : OpenPair L) → (followed_at L g q o ≡ true) ↔ FollowedAt L g q o) (ascend : Pairwise (PairBefore L) opens) where
      first : (r : Option (OpenPair L)) → first_of (followed_at L g q) opens ≡ r → Awaits L g opens q r
      first none e = λ o d.
          true_false ((followed o).1 ((decisive o).0 d).1) (first_of_none (followed_at L g q) opens e o d.stands)
      first (some o) e =
          let f = first_of_some (followed_at L g q) (PairBefore L) opens ascend e in (
            (decisive o).1 (f.0, (followed o).0 f.1),
            λ r b d.
                ⊎_elim (λ w. let c : PairBefore L o o = rw w at b in pair_once o o c c) (λ w. pair_once r o b w)
                (f.2 r d.stands ((followed r).1 ((decisive r).0 d).1)),
          )

      pub awaits_is : Awaits L g opens q (awaits L g q opens)
      unfolding awaits
      awaits_is = first (awaits L g q opens) refl

      pub awaits_none : ◌≡◌ {A = Option (OpenPair L)} (awaits L g q opens) none ↔ Settled L g opens q
      unfolding awaits
      awaits_none = (λ e. settled.1 (first none e), λ s. never (awaits L g q opens) refl (settled.0 s))
        where
          never : (r : Option (OpenPair L)) → first_of (followed_at L g q) opens ≡ r → ((o : OpenPair L) → ¬ Decisive L g opens q o)
              → ◌≡◌ {A = Option (OpenPair L)} (first_of (followed_at L g q) opens) none
          never none e n = e
          never (some o) e n = absurd (n o (first (some o) e).0)
