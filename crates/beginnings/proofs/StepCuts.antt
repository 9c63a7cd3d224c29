-- The test `step_cut` is StepCut, and `cut_before` says whether a reached path cuts a step. Assumes
-- nothing.
use Prim.Native.Nat.{◌<◌}
use mathlib.Core.Path.{◌≡◌, refl, ap}
use mathlib.Core.Bool.{Bool, true, false, ◌&&◌, ◌||◌, false≢true}
use mathlib.Core.Logic.{◌↔◌, ⊎_elim}
use mathlib.Core.List.{List, [], ◌∷◌, ◌++◌}
use Rattle.scope_graph.specs.Language.{End, by, Language, Laws}
use Rattle.scope_graph.specs.Graph.{Graph, InRange, Query}
use Rattle.scope_graph.specs.Path.{Hop, Reached, onward}
use Rattle.scope_graph.specs.Computed.{Node, same_hop, preferred_to, reached_nodes, cut}
use Rattle.scope_graph.proofs.Lists.{not_true, true_false, and_left, and_right, and_both, or_cases, or_left, or_right, any_of_intro, any_of_elim}
use Rattle.scope_graph.proofs.Reached.{same_hop_lem, reached_sound, reached_complete}
use Rattle.search.proofs.RulesLists.{any_of_same}
use Rattle.beginnings.specs.Beginnings.{StepCut, step_cut, cut_before}

module _ (L : Language) (laws : Laws L) where
  -- one shared hop more in front
  further : {h k : Hop L} {r p : List (Hop L)} → h ≡ k → StepCut L r p → StepCut L (h ∷ r) (k ∷ p)
  further {h} {k} e c = record {
    shared = k ∷ c.shared;
    hop = c.hop;
    p_rest = c.p_rest;
    r_rest = c.r_rest;
    p_is = ap (λ l. k ∷ l) c.p_is;
    r_is = rw e (ap (λ l. k ∷ l) c.r_is);
    preferred = c.preferred;
  }

  sound : (r p : List (Hop L)) → step_cut L r p ≡ true → StepCut L r p
  unfolding step_cut
  sound [] [] t = absurd (false≢true t)
  sound (h ∷ r) [] t = absurd (false≢true t)
  sound [] (k ∷ p) t = record { shared = []; hop = k; p_rest = p; r_rest = []; p_is = refl; r_is = refl; preferred = t }
  sound (h ∷ r) (k ∷ p) t =
      ⊎_elim (λ z. record { shared = []; hop = k; p_rest = p; r_rest = h ∷ r; p_is = refl; r_is = refl; preferred = z })
      (λ z. further ((same_hop_lem L laws h k).0 (and_left _ _ z)) (sound r p (and_right (same_hop L.same_step h k) _ z)))
      (or_cases (L.prefers (by h.step) (by k.step)) _ t)

  along : (shared : List (Hop L)) (hop : Hop L) (p r : List (Hop L)) → L.prefers (onward L r) (by hop.step) ≡ true
      → step_cut L (shared ++ r) (shared ++ (hop ∷ p)) ≡ true
  unfolding step_cut
  along [] hop p [] t = t
  along [] hop p (h ∷ r) t = or_left _ _ t
  along (k ∷ shared) hop p r t =
      or_right (L.prefers (by k.step) (by k.step)) _
      (and_both _ _ ((same_hop_lem L laws k k).1 refl) (along shared hop p r t))

  pub step_cut_lem : (r p : List (Hop L)) → (step_cut L r p ≡ true) ↔ StepCut L r p
  step_cut_lem r p = (sound r p, λ c. rw (c.p_is, c.r_is) (along c.shared c.hop c.p_rest c.r_rest c.preferred))

  module _ (g : Graph L) (q : Query L) where
    -- behind an end that none is preferred to, only the steps before it can be cut
    module _ (e : End L.Step) (past : (a : End L.Step) → L.prefers a e ≡ false) where
      preferred_past : (r p : List (Hop L)) → preferred_to L r p e ≡ step_cut L r p
      unfolding preferred_to step_cut
      preferred_past [] [] = past _
      preferred_past (h ∷ r) [] = past _
      preferred_past [] (k ∷ p) = refl
      preferred_past (h ∷ r) (k ∷ p) =
          ap (λ (b : Bool). L.prefers (by h.step) (by k.step) || same_hop L.same_step h k && b) (preferred_past r p)

      pub cut_past : (p : List (Hop L)) → cut L g q p e ≡ cut_before L g q p
      unfolding cut cut_before
      cut_past p = any_of_same _ _ (reached_nodes L g q) (λ n m. preferred_past n.hops p)

    module _ (range : InRange L g) (starts : q.start < g.scopes) where
      cut_elim : (p : List (Hop L)) → cut_before L g q p ≡ true
          → (r : List (Hop L)) × Reached L g q (record { start = q.start; hops = r }) × StepCut L r p
      unfolding cut_before
      cut_elim p t =
          let k = any_of_elim (λ (n : Node L). step_cut L n.hops p) (reached_nodes L g q) t in
          (k.0.hops, reached_sound L laws g q range starts _ k.0 refl k.1 refl, (step_cut_lem k.0.hops p).0 k.2)

      cut_intro : (p r : List (Hop L)) → Reached L g q (record { start = q.start; hops = r }) → StepCut L r p → cut_before L g q p ≡ true
      unfolding cut_before
      cut_intro p r w c =
          let k = reached_complete L laws g q range starts _ w in
          any_of_intro (λ (n : Node L). step_cut L n.hops p) k.2 (rw k.3 ((step_cut_lem r p).1 c))

      -- no reached path cuts a step
      pub uncut_is : (p : List (Hop L))
          → (cut_before L g q p ≡ false) ↔ ((r : List (Hop L)) → Reached L g q (record { start = q.start; hops = r }) → ¬ StepCut L r p)
      uncut_is p = (
        λ f r w c. true_false (cut_intro p r w c) f,
        λ h. not_true (cut_before L g q p) (λ t. let w = cut_elim p t in h w.0 w.1 w.2),
      )
