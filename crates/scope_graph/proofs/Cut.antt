-- The test `preferred_to` is Preferred, and `cut` says whether a reached path is preferred. Assumes nothing.
use Prim.Native.Nat.{◌<◌}
use mathlib.Core.Path.{◌≡◌, refl}
use mathlib.Core.Bool.{true, false}
use mathlib.Core.Logic.{◌↔◌, inl, inr, ⊎_elim}
use mathlib.Core.List.{List, [], ◌∷◌}
use Rattle.scope_graph.specs.Language.{End, by, Language, Laws}
use Rattle.scope_graph.specs.Graph.{Graph, InRange, Query}
use Rattle.scope_graph.specs.Path.{Hop, Reached}
use Rattle.scope_graph.specs.Computed.{same_hop, preferred_to, reached_nodes, cut}
use Rattle.scope_graph.specs.Followed.{Preferred}
use Rattle.scope_graph.proofs.Lists.{not_true, true_false, and_left, and_right, and_both, or_cases, or_left, or_right, any_of_intro, any_of_elim}
use Rattle.scope_graph.proofs.Reached.{same_hop_lem, reached_sound, reached_complete}

module _ (L : Language) (laws : Laws L) where
  -- the test by recursion on the hops is the statement
  pub preferred_to_lem : (r p : List (Hop L)) (e : End L.Step) → (preferred_to L r p e ≡ true) ↔ Preferred L r p e
  unfolding preferred_to
  preferred_to_lem [] [] e = (λ t. t, λ t. t)
  preferred_to_lem (h ∷ r) [] e = (λ t. t, λ t. t)
  preferred_to_lem [] (k ∷ p) e = (λ t. t, λ t. t)
  preferred_to_lem (h ∷ r) (k ∷ p) e = (
    λ t.
        ⊎_elim inl (λ z. inr ((same_hop_lem L laws h k).0 (and_left _ _ z), (preferred_to_lem r p e).0 (and_right (same_hop L.same_step h k) _ z)))
        (or_cases (L.prefers (by h.step) (by k.step)) _ t),
    ⊎_elim (λ z. or_left _ _ z)
        (λ z.
        or_right (L.prefers (by h.step) (by k.step)) _
        (and_both _ _ ((same_hop_lem L laws h k).1 z.0) ((preferred_to_lem r p e).1 z.1))),
  )

  module _ (g : Graph L) (q : Query L) (range : InRange L g) (starts : q.start < g.scopes) where
    -- a reached path is preferred to what goes along p and then on by e
    pub cut_elim : (p : List (Hop L)) (e : End L.Step) → cut L g q p e ≡ true
        → (r : List (Hop L)) × Reached L g q (record { start = q.start; hops = r }) × Preferred L r p e
    unfolding cut
    cut_elim p e t =
        let k = any_of_elim (λ n. preferred_to L n.hops p e) (reached_nodes L g q) t in
        (k.0.hops, reached_sound L laws g q range starts _ k.0 refl k.1 refl, (preferred_to_lem k.0.hops p e).0 k.2)

    pub cut_intro : (p : List (Hop L)) (e : End L.Step) (r : List (Hop L)) → Reached L g q (record { start = q.start; hops = r })
        → Preferred L r p e → cut L g q p e ≡ true
    unfolding cut
    cut_intro p e r w d =
        let k = reached_complete L laws g q range starts _ w in
        any_of_intro (λ n. preferred_to L n.hops p e) k.2 (rw k.3 ((preferred_to_lem r p e).1 d))

    pub cut_is : (p : List (Hop L)) (e : End L.Step)
        → (cut L g q p e ≡ true) ↔ ((r : List (Hop L)) × Reached L g q (record { start = q.start; hops = r }) × Preferred L r p e)
    cut_is p e = (cut_elim p e, λ w. cut_intro p e w.0 w.1 w.2)

    -- no reached path is
    pub uncut_is : (p : List (Hop L)) (e : End L.Step)
        → (cut L g q p e ≡ false) ↔ ((r : List (Hop L)) → Reached L g q (record { start = q.start; hops = r }) → ¬ Preferred L r p e)
    uncut_is p e = (
      λ f r w d. true_false (cut_intro p e r w d) f,
      λ h. not_true (cut L g q p e) (λ t. let w = cut_elim p e t in h w.0 w.1 w.2),
    )
