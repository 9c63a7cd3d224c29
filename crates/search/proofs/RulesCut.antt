-- What is cut, at a scope and along hops, is what the rules cut: at a node, some reached path is
-- preferred to a hop and what follows it exactly if it stops or goes on by a preferred end, or goes
-- by that hop and is preferred below. Assumes nothing.
use Prim.Native.Nat.{ℕ, zero, suc}
use mathlib.Core.Path.{◌≡◌, refl, sym, ap, ◌∙◌, subst}
use mathlib.Core.Bool.{Bool, true, false, ◌&&◌, ◌||◌, and-true, and-false, and_comm, or-false}
use mathlib.Core.Logic.{⊎_elim}
use mathlib.Core.List.Memᴰ
use mathlib.Core.List.{List, [], ◌∷◌}
use Rattle.scope_graph.specs.Language.{◌∈◌, End, stop, by, Language, Laws}
use Rattle.scope_graph.specs.Graph.{Graph, InRange}
use Rattle.scope_graph.specs.Path.{Hop}
use Rattle.scope_graph.specs.Rows.{any_of}
use Rattle.scope_graph.specs.Computed.{keep, Node, hops_at, behind, nodes_from, same_hop, preferred_to}
use Rattle.scope_graph.proofs.Lists.{Two, any_of_intro}
use Rattle.scope_graph.proofs.Reached.{same_hop_lem}
use Rattle.search.specs.Board.{board_of, without, hop_leads, cut_here, cut_along}
use Rattle.search.proofs.RulesLists.{any_of_same, any_of_no, any_of_keep, any_of_or, any_of_and, any_of_map}
use Rattle.search.proofs.RulesNodes.{Agree, agree_on, entered, beyond, sought, Shut, Open, hop_view, any_step, leads_is, Further, node_view}

module _ (L : Language) (g : Graph L) (x : L.Name) where
  -- from a scope and a state on, a path to what is sought is preferred to what goes along p and
  -- then on by e
  unfoldable pub cut_from : ℕ → List ℕ → ℕ → ℕ → List (Hop L) → End L.Step → Bool
  cut_from fuel seen s q p e = any_of (λ n. preferred_to L n.hops p e) (keep (sought L g x) (nodes_from L fuel g seen s q))

  -- r goes by the hop h and is preferred below to what goes along p and then on by e
  unfoldable through : Hop L → List (Hop L) → End L.Step → List (Hop L) → Bool
  through h p e [] = false
  through h p e (k ∷ r) = same_hop L.same_step k h && preferred_to L r p e

  preferred_split : (h : Hop L) (p : List (Hop L)) (e : End L.Step) (r : List (Hop L))
      → preferred_to L r (h ∷ p) e ≡ (preferred_to L r [] (by h.step) || through h p e r)
  unfolding preferred_to through
  preferred_split h p e [] = sym (or-false _)
  preferred_split h p e (k ∷ r) = refl

module _ (L : Language) (laws : Laws L) (g : Graph L) (x : L.Name) (range : InRange L g) where
  -- behind a hop only the hop counts against an end at its scope
  hop_cut : (fuel : ℕ) (free : ℕ → Bool) (seen : List ℕ) → Agree g.scopes free seen → (s q : ℕ) (e : End L.Step) (h : Hop L)
      → h ∈ hops_at L g.edges s
      → any_of (λ n. sought L g x n && preferred_to L n.hops [] e) (beyond L g fuel seen q h)
      ≡ (L.prefers (by h.step) e && hop_leads (board_of L g x) fuel free q h)
  unfolding any_of behind preferred_to
  hop_cut fuel free seen a s q e h m =
      ⊎_elim shut goes (hop_view L g x range free seen a s q h m)
      ∙ ap (λ (c : Bool). L.prefers (by h.step) e && c) (sym (leads_is L g x range fuel free seen a s q h m))
    where
      test : Node L → Bool
      test n = sought L g x n && preferred_to L n.hops [] e

      shut : Shut L g x free seen q h → any_of test (beyond L g fuel seen q h) ≡ (L.prefers (by h.step) e && any_of (sought L g x) (beyond L g fuel seen q h))
      shut v = rw (v.on (entered L g fuel seen)) (sym (and-false (L.prefers (by h.step) e)))

      goes : Open L g x free seen q h → any_of test (beyond L g fuel seen q h) ≡ (L.prefers (by h.step) e && any_of (sought L g x) (beyond L g fuel seen q h))
      goes v =
          let N = nodes_from L fuel g (h.to ∷ seen) h.to v.state in
          rw (v.on (entered L g fuel seen))
          (any_of_map test (behind L h) N ∙ any_of_same _ _ N (λ n k. and_comm (sought L g x n) (L.prefers (by h.step) e))
          ∙ any_of_and (L.prefers (by h.step) e) (sought L g x) N
          ∙ ap (λ (c : Bool). L.prefers (by h.step) e && c) (sym (any_of_map (sought L g x) (behind L h) N)))

  -- an end at the scope itself
  pub cut_here_lem : (fuel : ℕ) (free : ℕ → Bool) (seen : List ℕ) → Agree g.scopes free seen → (s q : ℕ) (e : End L.Step)
      → cut_from L g x (suc fuel) seen s q [] e ≡ cut_here (board_of L g x) L.prefers fuel free s q e
  unfolding cut_from cut_here board_of preferred_to
  cut_here_lem fuel free seen a s q e =
      any_of_keep (λ n. preferred_to L n.hops [] e) (sought L g x) (nodes_from L (suc fuel) g seen s q)
      ∙ any_step L g x (λ n. sought L g x n && preferred_to L n.hops [] e) fuel seen s q
      ∙ ap (λ (c : Bool). (board_of L g x).here s q && L.prefers stop e || c) (any_of_same _ _ (hops_at L g.edges s) (hop_cut fuel free seen a s q e))

  -- below a hop that paths go on by: behind another hop nothing is preferred so
  module _ (fuel : ℕ) (free : ℕ → Bool) (seen : List ℕ) (a : Agree g.scopes free seen) (s q : ℕ) (h : Hop L)
      (v : Open L g x free seen q h) (p : List (Hop L)) (e : End L.Step) where
    abbrev below : Bool
    below = cut_from L g x fuel (h.to ∷ seen) h.to v.state p e

    abbrev passes : Node L → Bool
    passes n = sought L g x n && through L g x h p e n.hops

    -- by the hop itself, and by another
    by_it : any_of passes (beyond L g fuel seen q h) ≡ below
    unfolding through behind cut_from
    by_it =
        let N = nodes_from L fuel g (h.to ∷ seen) h.to v.state in
        rw (v.on (entered L g fuel seen))
        (any_of_map passes (behind L h) N
        ∙ any_of_same _ _ N (λ n k. ap (λ (c : Bool). sought L g x n && (c && preferred_to L n.hops p e)) ((same_hop_lem L laws h h).1 refl))
        ∙ sym (any_of_keep (λ n. preferred_to L n.hops p e) (sought L g x) N))

    by_other : (k : Hop L) → k ∈ hops_at L g.edges s → same_hop L.same_step k h ≡ false → any_of passes (beyond L g fuel seen q k) ≡ false
    unfolding through behind any_of
    by_other k m t = ⊎_elim shut goes (hop_view L g x range free seen a s q k m)
      where
        shut : Shut L g x free seen q k → any_of passes (beyond L g fuel seen q k) ≡ false
        shut w = rw (w.on (entered L g fuel seen))

        goes : Open L g x free seen q k → any_of passes (beyond L g fuel seen q k) ≡ false
        goes w =
            let N = nodes_from L fuel g (k.to ∷ seen) k.to w.state in
            rw (w.on (entered L g fuel seen))
            (any_of_map passes (behind L k) N ∙ any_of_no _ N (λ n y. rw t (and-false (sought L g x n))))

    by_hop : (k : Hop L) → k ∈ hops_at L g.edges s → any_of passes (beyond L g fuel seen q k) ≡ (same_hop L.same_step k h && below)
    by_hop k m = ⊎_elim same other (Two (same_hop L.same_step k h))
      where
        same : same_hop L.same_step k h ≡ true → any_of passes (beyond L g fuel seen q k) ≡ (same_hop L.same_step k h && below)
        same t = rw (t, (same_hop_lem L laws k h).0 t) by_it

        other : same_hop L.same_step k h ≡ false → any_of passes (beyond L g fuel seen q k) ≡ (same_hop L.same_step k h && below)
        other t = rw t (by_other k m t)

    by_hops : h ∈ hops_at L g.edges s → any_of (λ k. any_of passes (beyond L g fuel seen q k)) (hops_at L g.edges s) ≡ below
    by_hops m =
        any_of_same _ _ (hops_at L g.edges s) (λ k n. by_hop k n ∙ and_comm (same_hop L.same_step k h) below)
        ∙ any_of_and below (λ k. same_hop L.same_step k h) (hops_at L g.edges s)
        ∙ ap (λ (c : Bool). below && c) (any_of_intro (λ k. same_hop L.same_step k h) m ((same_hop_lem L laws h h).1 refl)) ∙ and-true below

    pub cut_on : h ∈ hops_at L g.edges s → cut_from L g x (suc fuel) seen s q (h ∷ p) e
        ≡ (cut_here (board_of L g x) L.prefers fuel free s q (by h.step) || cut_from L g x fuel (h.to ∷ seen) h.to v.state p e)
    unfolding cut_from through
    cut_on m =
        let N = nodes_from L (suc fuel) g seen s q in
        any_of_same _ _ (keep (sought L g x) N) (λ n k. preferred_split L g x h p e n.hops)
        ∙ any_of_or (λ n. preferred_to L n.hops [] (by h.step)) (λ n. through L g x h p e n.hops) (keep (sought L g x) N)
        ∙ ap (λ (c : Bool). c || any_of (λ n. through L g x h p e n.hops) (keep (sought L g x) N)) (cut_here_lem fuel free seen a s q (by h.step))
        ∙ ap (λ (c : Bool). cut_here (board_of L g x) L.prefers fuel free s q (by h.step) || c)
        (any_of_keep (λ n. through L g x h p e n.hops) (sought L g x) N ∙ any_step L g x passes fuel seen s q
        ∙ ap (λ (c : Bool). c || any_of (λ k. any_of passes (beyond L g fuel seen q k)) (hops_at L g.edges s))
        (and-false (sought L g x (record { hops = []; at = s; state = q })))
        ∙ by_hops m)

  -- along the hops of a path
  pub cut_along_lem : (fuel : ℕ) (free : ℕ → Bool) (seen : List ℕ) → Agree g.scopes free seen → (s q : ℕ) (n : Node L)
      → n ∈ nodes_from L fuel g seen s q → (e : End L.Step)
      → cut_along (board_of L g x) L.prefers fuel free s q n.hops e ≡ cut_from L g x fuel seen s q n.hops e
  unfolding nodes_from cut_along behind
  cut_along_lem zero free seen a s q n m e = absurd (Memᴰ.not-nil m)
  cut_along_lem (suc fuel) free seen a s q n m e =
      ⊎_elim ended (λ f. further f (cut_along_lem fuel _ _ (agree_on g.scopes free seen a f.hop.to) _ _ f.rest f.found e))
      (node_view L g x range fuel free seen a s q n m)
    where
      Holds : Node L → Type 0
      Holds n = cut_along (board_of L g x) L.prefers (suc fuel) free s q n.hops e ≡ cut_from L g x (suc fuel) seen s q n.hops e

      ended : n ≡ record { hops = []; at = s; state = q } → Holds n
      ended z = subst Holds (sym z) (sym (cut_here_lem fuel free seen a s q e))

      further : (f : Further L g x fuel free seen s q n)
          → cut_along (board_of L g x) L.prefers fuel (without free f.hop.to) f.hop.to f.opens.state f.rest.hops e
          ≡ cut_from L g x fuel (f.hop.to ∷ seen) f.hop.to f.opens.state f.rest.hops e
          → Holds n
      further f ih =
          subst Holds (sym f.is)
          (ap (λ (c : Bool). cut_here (board_of L g x) L.prefers fuel free s q (by f.hop.step) || c) (f.opens.leads _ ∙ ih)
          ∙ sym (cut_on fuel free seen a s q f.hop f.opens f.rest.hops e f.leaves))
