-- The last place along a reached path whose own end is cut is the number of steps with which it is
-- shadowed: a path to what is sought that is preferred leaves it at such a place, and where two of
-- them go by one label to one scope they are one hop. Assumes nothing.
use Prim.Native.Nat.{ℕ, zero, suc, ◌≤◌, ◌<◌}
use mathlib.Core.Path.{◌≡◌, refl, sym, ap, ◌∙◌, subst, fun_ext}
use mathlib.Core.Bool.{Bool, true, false, ◌||◌, or-false}
use mathlib.Core.Option.{Option, some, none}
use mathlib.Core.Logic.{◌⊎◌, inl, inr, ⊎_elim}
use mathlib.Core.List.Memᴰ
use mathlib.Core.List.{List, [], ◌∷◌, map}
use native.Mathlib.Omega.{arith}
use lib.Dec.{eqb}
use borrow.Author.Tests.{eqb-true, eq-eqb}
use Rattle.scope_graph.specs.Language.{◌∈◌, End, stop, by, Language, Laws}
use Rattle.scope_graph.specs.Graph.{Graph, InRange, Query}
use Rattle.scope_graph.specs.Path.{Hop, Path}
use Rattle.scope_graph.specs.Rows.{any_of}
use Rattle.scope_graph.specs.Computed.{keep, Node, hops_at, behind, hop_on, nodes_from, same_hop, same_hops, preferred_to, nodes, reached_nodes, is_reached}
use Rattle.scope_graph.specs.Agree.{most, agree_hops, same_step, caught, OneStep}
use Rattle.scope_graph.proofs.Lists.{Two, true_false, and_right, there, any_of_elim, any_of_none, keep_intro, keep_elim, map_intro, map_elim, flat_map_intro}
use Rattle.scope_graph.proofs.Nodes.{hops_at_elim}
use Rattle.scope_graph.proofs.Reached.{same_hop_lem, same_hops_lem}
use Rattle.scope_graph.proofs.Agree.{most_least, most_in, agree_on, agree_off, agree_ended, agree_over, step_whole}
use Rattle.search.specs.Board.{board_of, without, leads_to, cut_here, cut_along}
use Rattle.search.proofs.RulesNodes.{Agree, agree_on as agree-with, agree_start, sought, entered, Open, Further, node_view}
use Rattle.search.proofs.RulesCut.{cut_from, cut_here_lem}
use Rattle.judge.specs.LastCut.{deeper, leads_by, last_cut}

-- is there a place?
unfoldable pub is_place : Option ℕ → Bool
is_place none = false
is_place (some n) = true

module _ (L : Language) (laws : Laws L) (g : Graph L) (x : L.Name) (range : InRange L g) (one : OneStep L) where
  -- a path is preferred to one along p, and in how many steps it agrees with it
  abbrev beats : List (Hop L) → Node L → Bool
  beats p m = preferred_to L m.hops p stop

  abbrev depth : List (Hop L) → Node L → ℕ
  depth p m = agree_hops L m.hops p

  -- the greatest number of steps in which one of these that is preferred to p agrees with it
  abbrev Deepest : List (Node L) → List (Hop L) → Option ℕ → Type 0
  Deepest N p none = (m : Node L) → m ∈ N → beats p m ≡ true → ⊥
  Deepest N p (some n) =
      ((m : Node L) × (m ∈ N) × (beats p m ≡ true) × (depth p m ≡ n))
      × ((m : Node L) → m ∈ N → beats p m ≡ true → depth p m ≤ n)

  -- the places where what is sought lies, from a scope and state on
  abbrev found : ℕ → List ℕ → ℕ → ℕ → List (Node L)
  found fuel seen s q = keep (sought L g x) (nodes_from L fuel g seen s q)

  -- where the path ends
  ended : (N : List (Node L)) (c : Bool) → any_of (λ (m : Node L). preferred_to L m.hops [] stop) N ≡ c → Deepest N [] (deeper none c)
  unfolding deeper
  ended N true e =
      let k = any_of_elim (λ (m : Node L). preferred_to L m.hops [] stop) N e in
      ((k.0, k.1, k.2, agree_over L k.0.hops), λ m i b. let z = agree_over L m.hops in omega arith)
  ended N false e = λ m i b. true_false b (any_of_none (λ (m : Node L). preferred_to L m.hops [] stop) N e m i)

  -- where it goes on by the hop h, behind which p is left
  module _ (fuel : ℕ) (free : ℕ → Bool) (seen : List ℕ) (a : Agree g.scopes free seen) (s q : ℕ) (h : Hop L)
      (leaves : h ∈ hops_at L g.edges s) (v : Open L g x free seen q h) (p : List (Hop L)) where
    abbrev N : List (Node L)
    N = found (suc fuel) seen s q

    abbrev below : List (Node L)
    below = found fuel (h.to ∷ seen) h.to v.state

    abbrev at_end : Node L → Bool
    at_end m = preferred_to L m.hops [] (by h.step)

    -- a path to what is sought parts from it here, or goes by the same hop
    record Parts (m : Node L) : Type 0 where
      flat : depth (h ∷ p) m ≡ 0
      at_end : beats (h ∷ p) m ≡ at_end m

    record Passes (m : Node L) : Type 0 where
      rest : Node L
      inside : rest ∈ below
      deep : depth (h ∷ p) m ≡ suc (depth p rest)
      beats_too : beats (h ∷ p) m ≡ beats p rest
      not_end : at_end m ≡ false

    parts_ended : Parts (record { hops = []; at = s; state = q })
    unfolding preferred_to
    parts_ended = record { flat = agree_ended L (h ∷ p); at_end = refl }

    parts_hop : (k : Hop L) (r : Node L) → k ∈ hops_at L g.edges s → same_hop L.same_step k h ≡ false → Parts (behind L k r)
    unfolding preferred_to behind
    parts_hop k r m e = record {
      flat =
          agree_off L k h r.hops p
          (step_whole L laws g range one s k h (hops_at_elim L g.edges s m) (hops_at_elim L g.edges s leaves) ∙ e);
      at_end = rw e (or-false (L.prefers (by k.step) (by h.step)));
    }

    self_step : same_step L h h ≡ true
    self_step =
        step_whole L laws g range one s h h (hops_at_elim L g.edges s leaves) (hops_at_elim L g.edges s leaves)
        ∙ (same_hop_lem L laws h h).1 refl

    passes_hop : (r : Node L) → r ∈ below → Passes (behind L h r)
    unfolding preferred_to behind
    passes_hop r i = record {
      rest = r;
      inside = i;
      deep = agree_on L h h r.hops p self_step;
      beats_too = rw (laws.irreflexive (by h.step), (same_hop_lem L laws h h).1 refl);
      not_end = laws.irreflexive (by h.step);
    }

    -- the state behind a hop is one
    one_state : (k : Hop L) → k ≡ h → (w : Open L g x free seen q k) → v.state ≡ w.state
    one_state k e w =
        let test : ℕ → ℕ → Bool = λ t r. eqb r w.state in
        eqb-true v.state w.state
        (sym (v.leads test) ∙ ap (λ (z : Hop L). leads_to (board_of L g x) test free q z) (sym e) ∙ w.leads test ∙ eq-eqb w.state _ refl)

    same_below : (k : Hop L) → k ≡ h → (w : Open L g x free seen q k) (r : Node L) → r ∈ nodes_from L fuel g (k.to ∷ seen) k.to w.state
        → r ∈ nodes_from L fuel g (h.to ∷ seen) h.to v.state
    same_below k e w r i =
        subst (λ (t : ℕ). r ∈ nodes_from L fuel g (t ∷ seen) t v.state) (ap (λ (z : Hop L). z.to) e)
        (subst (λ (y : ℕ). r ∈ nodes_from L fuel g (k.to ∷ seen) k.to y) (sym (one_state k e w)) i)

    view : (m : Node L) → m ∈ N → Parts m ⊎ Passes m
    unfolding behind
    view m i =
        let k = keep_elim (sought L g x) (nodes_from L (suc fuel) g seen s q) i in
        ⊎_elim (λ z. inl (subst Parts (sym z) parts_ended)) (λ f. by_hop f k.1 (Two (same_hop L.same_step f.hop h)))
        (node_view L g x range fuel free seen a s q m k.0)
      where
        by_hop : (f : Further L g x fuel free seen s q m) → sought L g x m ≡ true → (same_hop L.same_step f.hop h ≡ true) ⊎ (same_hop L.same_step f.hop h ≡ false) → Parts m ⊎ Passes m
        by_hop f t (inr e) = inl (subst Parts (sym f.is) (parts_hop f.hop f.rest f.leaves e))
        by_hop f t (inl e) =
            let same = (same_hop_lem L laws f.hop h).0 e in
            let t' : sought L g x (behind L f.hop f.rest) ≡ true = subst (λ (z : Node L). sought L g x z ≡ true) f.is t in
            inr (subst Passes (sym (f.is ∙ ap (λ (z : Hop L). behind L z f.rest) same))
            (passes_hop f.rest (keep_intro (sought L g x) (same_below f.hop same f.opens f.rest f.found) t')))

    into : (r : Node L) → r ∈ below → behind L h r ∈ N
    unfolding nodes_from behind
    into r i =
        let k = keep_elim (sought L g x) (nodes_from L fuel g (h.to ∷ seen) h.to v.state) i in
        keep_intro (sought L g x)
        (there (flat_map_intro (hop_on L (entered L g fuel seen) seen q) leaves
        (subst (λ (z : List (Node L)). behind L h r ∈ z) (sym (v.on (entered L g fuel seen))) (map_intro (behind L h) k.0))))
        k.1

    goes : (o : Option ℕ) → Deepest below p o → (c : Bool) → any_of at_end N ≡ c → Deepest N (h ∷ p) (deeper o c)
    unfolding deeper passes_hop
    goes (some n) d c e =
        let w = passes_hop d.0.0 d.0.1 in (
          (behind L h d.0.0, into d.0.0 d.0.1, w.beats_too ∙ d.0.2, w.deep ∙ ap suc d.0.3),
          λ m i b. ⊎_elim
              (λ (y : Parts m). let z = y.flat in omega arith)
              (λ (y : Passes m). let z = y.deep in let u = d.1 y.rest y.inside (sym y.beats_too ∙ b) in omega arith)
              (view m i),
        )
    goes none d true e =
        let k = any_of_elim at_end N e in (
          ⊎_elim
              (λ (y : Parts k.0). (k.0, k.1, y.at_end ∙ k.2, y.flat))
              (λ (y : Passes k.0). absurd (true_false k.2 y.not_end))
              (view k.0 k.1),
          λ m i b. ⊎_elim
              (λ (y : Parts m). let z = y.flat in omega arith)
              (λ (y : Passes m). absurd (d y.rest y.inside (sym y.beats_too ∙ b)))
              (view m i),
        )
    goes none d false e = λ m i b. ⊎_elim
        (λ (y : Parts m). true_false (sym y.at_end ∙ b) (any_of_none at_end N e m i))
        (λ (y : Passes m). d y.rest y.inside (sym y.beats_too ∙ b))
        (view m i)

  -- what is said behind a hop that paths go on by
  leads_open : {A : Type 0} (other : A) (enter : ℕ → ℕ → A) (free : ℕ → Bool) (seen : List ℕ) (q : ℕ) (h : Hop L) (v : Open L g x free seen q h)
      → leads_by (board_of L g x) other enter free q h ≡ enter h.to v.state
  unfolding board_of leads_to leads_by
  leads_open {A} other enter free seen q h v =
      at (free h.to) refl (L.next q (L.label h.step)) refl (v.leads test ∙ eq-eqb v.state _ refl)
    where
      test : ℕ → ℕ → Bool
      test t r = eqb r v.state

      at : (f : Bool) → free h.to ≡ f → (o : Option ℕ) → L.next q (L.label h.step) ≡ o → leads_to (board_of L g x) test free q h ≡ true
          → leads_by (board_of L g x) other enter free q h ≡ enter h.to v.state
      at false k o e t = absurd (true_false t (rw (k, leads_to)))
      at true k none e t = absurd (true_false t (rw (k, leads_to, e)))
      at true k (some r) e t =
          let told : leads_to (board_of L g x) test free q h ≡ eqb r v.state = rw (k, leads_to, e) in
          let same : r ≡ v.state = eqb-true r v.state (sym told ∙ t) in
          rw (k, leads_by, e) (ap (enter h.to) same)

  deepest : (fuel : ℕ) (free : ℕ → Bool) (seen : List ℕ) → Agree g.scopes free seen → (s q : ℕ) (n : Node L) → n ∈ nodes_from L fuel g seen s q
      → Deepest (found fuel seen s q) n.hops (last_cut (board_of L g x) L.prefers fuel free s q n.hops stop)
  unfolding nodes_from last_cut cut_from behind
  deepest zero free seen a s q n m = absurd (Memᴰ.not-nil m)
  deepest (suc fuel) free seen a s q n m =
      ⊎_elim stops (λ f. further f (deepest fuel _ _ (agree-with g.scopes free seen a f.hop.to) _ _ f.rest f.found))
      (node_view L g x range fuel free seen a s q n m)
    where
      Holds : Node L → Type 0
      Holds k = Deepest (found (suc fuel) seen s q) k.hops (last_cut (board_of L g x) L.prefers (suc fuel) free s q k.hops stop)

      stops : n ≡ record { hops = []; at = s; state = q } → Holds n
      stops z = subst Holds (sym z) (ended (found (suc fuel) seen s q) _ (cut_here_lem L laws g x range fuel free seen a s q stop))

      further : (f : Further L g x fuel free seen s q n)
          → Deepest (found fuel (f.hop.to ∷ seen) f.hop.to f.opens.state) f.rest.hops
          (last_cut (board_of L g x) L.prefers fuel (without free f.hop.to) f.hop.to f.opens.state f.rest.hops stop)
          → Holds n
      further f ih =
          subst Holds (sym f.is)
          (subst
          (λ (o : Option ℕ). Deepest (found (suc fuel) seen s q) (f.hop ∷ f.rest.hops) (deeper o (cut_here (board_of L g x) L.prefers fuel free s q (by f.hop.step))))
          (sym (leads_open none (λ t r. last_cut (board_of L g x) L.prefers fuel (without free t) t r f.rest.hops stop) free seen q f.hop f.opens))
          (goes fuel free seen a s q f.hop f.leaves f.opens f.rest.hops _ ih _ (cut_here_lem L laws g x range fuel free seen a s q (by f.hop.step))))

-- an end along the hops is cut exactly if there is a last one
module _ (L : Language) (g : Graph L) (x : L.Name) where
  place_leads : (enter : ℕ → ℕ → Option ℕ) (free : ℕ → Bool) (q : ℕ) (h : Hop L)
      → leads_to (board_of L g x) (λ t r. is_place (enter t r)) free q h ≡ is_place (leads_by (board_of L g x) none enter free q h)
  unfolding board_of leads_to leads_by is_place
  place_leads enter free q h = at (free h.to) refl (L.next q (L.label h.step)) refl
    where
      at : (f : Bool) → free h.to ≡ f → (o : Option ℕ) → L.next q (L.label h.step) ≡ o
          → leads_to (board_of L g x) (λ t r. is_place (enter t r)) free q h ≡ is_place (leads_by (board_of L g x) none enter free q h)
      at false k o e = rw (k, leads_to, leads_by)
      at true k none e = rw (k, leads_to, leads_by, e)
      at true k (some r) e = rw (k, leads_to, leads_by, e)

  place_deeper : (o : Option ℕ) (c : Bool) → is_place (deeper o c) ≡ (c || is_place o)
  unfolding is_place deeper
  place_deeper none true = refl
  place_deeper none false = refl
  place_deeper (some n) true = refl
  place_deeper (some n) false = refl

  pub cut_some : (fuel : ℕ) (free : ℕ → Bool) (s q : ℕ) (hs : List (Hop L)) (e : End L.Step)
      → cut_along (board_of L g x) L.prefers fuel free s q hs e ≡ is_place (last_cut (board_of L g x) L.prefers fuel free s q hs e)
  unfolding cut_along last_cut is_place
  cut_some zero free s q hs e = refl
  cut_some (suc fuel) free s q [] e = sym (place_deeper none _ ∙ or-false _)
  cut_some (suc fuel) free s q (h ∷ hs) e =
      ap (λ (c : Bool). cut_here (board_of L g x) L.prefers fuel free s q (by h.step) || c)
      (ap (λ (enter : ℕ → ℕ → Bool). leads_to (board_of L g x) enter free q h) (fun_ext (λ t. fun_ext (λ r. cut_some fuel (without free t) t r hs e)))
      ∙ place_leads (λ t r. last_cut (board_of L g x) L.prefers fuel (without free t) t r hs e) free q h)
      ∙ sym (place_deeper _ _)

-- of a query, from its start
module _ (L : Language) (laws : Laws L) (g : Graph L) (q : Query L) (range : InRange L g) (one : OneStep L)
    (all : ℕ → Bool) (full : (t : ℕ) → t < g.scopes → all t ≡ true) (p : Path L) where
  abbrev depths : List ℕ
  depths = map (λ (n : Node L). agree_hops L n.hops p.hops) (keep (λ (n : Node L). preferred_to L n.hops p.hops stop) (reached_nodes L g q))

  most_is : (n : ℕ) → Deepest L laws g q.name range one (reached_nodes L g q) p.hops (some n) → most depths ≡ n
  most_is n d =
      let k = Memᴰ.cast (sym d.0.3) (map_intro (λ (m : Node L). agree_hops L m.hops p.hops) (keep_intro (λ (m : Node L). preferred_to L m.hops p.hops stop) d.0.1 d.0.2)) in
      let w = map_elim (λ (m : Node L). agree_hops L m.hops p.hops) (keep (λ (m : Node L). preferred_to L m.hops p.hops stop) (reached_nodes L g q)) (most_in depths n k) in
      let b = keep_elim (λ (m : Node L). preferred_to L m.hops p.hops stop) (reached_nodes L g q) w.1 in
      let above = most_least depths n k in
      let within = d.1 w.0 b.0 b.1 in
      omega (arith, w.2)

  pub caught_is : is_reached L g q p ≡ true → (n : ℕ)
      → last_cut (board_of L g q.name) L.prefers g.scopes (without all q.start) q.start 0 p.hops stop ≡ some n → caught L g q p ≡ n
  unfolding is_reached reached_nodes nodes caught
  caught_is t n e =
      let k = any_of_elim (λ m. same_hops L m.hops p.hops) (reached_nodes L g q) (and_right (eqb p.start q.start) _ t) in
      let m = keep_elim (sought L g q.name) (nodes L g q) k.1 in
      let same = (same_hops_lem L laws k.0.hops p.hops).0 k.2 in
      let d = deepest L laws g q.name range one g.scopes (without all q.start) (q.start ∷ []) (agree_start g.scopes all q.start full) q.start 0 k.0 m.0 in
      most_is n (subst (Deepest L laws g q.name range one (reached_nodes L g q) p.hops) e
      (subst (λ (hs : List (Hop L)). Deepest L laws g q.name range one (reached_nodes L g q) hs (last_cut (board_of L g q.name) L.prefers g.scopes (without all q.start) q.start 0 hs stop)) same d))
