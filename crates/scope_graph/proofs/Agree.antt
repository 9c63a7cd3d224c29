-- The value of specs/Agree: how far paths agree, and that the computed number is the one with which
-- a path is shadowed. Assumes nothing.
use Prim.Native.Nat.{ℕ, zero, suc, ◌≤◌, ◌<◌}
use mathlib.Core.Path.{◌≡◌, refl, sym, ap, ◌∙◌, subst}
use mathlib.Core.Bool.{Bool, true, false}
use mathlib.Core.Logic.{◌↔◌, ◌⊎◌, inl, inr, ⊎_elim}
use mathlib.Core.List.Memᴰ
use mathlib.Core.List.{List, [], ◌∷◌, map}
use native.Mathlib.Omega.{arith}
use lib.Dec.{eqb, ltb}
use lib.ListN.{length}
use borrow.Author.Tests.{eqb-true, eq-eqb, ne_eqb, ltb-true, ltb-false}
use Rattle.scope_graph.specs.Language.{◌∈◌, stop, Language, Laws}
use Rattle.scope_graph.specs.Graph.{Graph, InRange, Query, OpenPair}
use Rattle.scope_graph.specs.Path.{Hop, Path, PathRow, MoreSpecific, Reached, Shadowed, MarkDeclared, Entry}
use Rattle.scope_graph.specs.Turns.{Turned}
use Rattle.scope_graph.specs.Rows.{Rules}
use Rattle.scope_graph.specs.Rows.{language as language_of}
use Rattle.scope_graph.specs.Computed.{Standing, is_visible, is_shadowed, is_unreached, Node, keep, same_hop, preferred_to, reached_nodes, judged}
use Rattle.scope_graph.specs.Listing.{Accepted}
use Rattle.scope_graph.specs.Agree.{most, Judgement, as_visible, as_shadowed, as_unreached, with_steps, same_step, agree_hops, agree, ShadowedWith, caught, judgement, OneStep, PathsAgree, CaughtIs, AgreePromises}
use Rattle.scope_graph.proofs.Lists.{Two, not_true, true_false, and_left, and_right, and_both, here, there, keep_intro, keep_elim, map_intro, map_elim}
use Rattle.scope_graph.proofs.Order.{recursive}
use Rattle.scope_graph.proofs.Reached.{same_hop_lem, reached_sound, reached_complete}
use Rattle.scope_graph.proofs.Cut.{preferred_to_lem}
use Rattle.scope_graph.proofs.Entries.{shadowed_by, judged_is}

-- the greatest of some numbers is one of them, and none is greater
pub most_least : (l : List ℕ) (x : ℕ) → x ∈ l → x ≤ most l
unfolding most
most_least [] x m = absurd (Memᴰ.not-nil m)
most_least (y ∷ l) x m = step (ltb (most l) y) refl (Memᴰ.cases_cons m) (most_least l x)
  where
    step : (b : Bool) → ltb (most l) y ≡ b → (x ≡ y) ⊎ (x ∈ l) → (x ∈ l → x ≤ most l) → x ≤ (elim b as (λ _. ℕ) [ true ↦ y | false ↦ most l ])
    step true e (inl z) ih = omega (arith, z)
    step true e (inr k) ih = let u = ltb-true (most l) y e in let v = ih k in omega arith
    step false e (inl z) ih = let u = ltb-false (most l) y e in omega (arith, z)
    step false e (inr k) ih = ih k

most_first : (x : ℕ) (l : List ℕ) → most (x ∷ l) ∈ (x ∷ l)
unfolding most
most_first x [] = step (ltb 0 x) refl
  where
    step : (b : Bool) → ltb 0 x ≡ b → (elim b as (λ _. ℕ) [ true ↦ x | false ↦ 0 ]) ∈ (x ∷ [])
    step true e = here
    step false e = let u = ltb-false 0 x e in let z : 0 ≡ x = omega arith in Memᴰ.head z
most_first x (z ∷ l) = step (ltb (most (z ∷ l)) x) (most_first z l)
  where
    step : (b : Bool) → most (z ∷ l) ∈ (z ∷ l) → (elim b as (λ _. ℕ) [ true ↦ x | false ↦ most (z ∷ l) ]) ∈ (x ∷ z ∷ l)
    step true k = here
    step false k = there k

pub most_in : (l : List ℕ) (x : ℕ) → x ∈ l → most l ∈ l
most_in [] x m = absurd (Memᴰ.not-nil m)
most_in (y ∷ l) x m = most_first y l

pub most_within : (l : List ℕ) (n : ℕ) → ((x : ℕ) → x ∈ l → x ≤ n) → most l ≤ n
unfolding most
most_within [] n h = omega arith
most_within (y ∷ l) n h = h (most (y ∷ l)) (most_first y l)

-- a standing with its number, taken apart
is_visible_with : (s : Standing) (n : ℕ) → with_steps s n ≡ as_visible → s ≡ is_visible
unfolding with_steps
is_visible_with is_visible n e = refl
is_visible_with is_shadowed n e = absurd (let z : ◌≡◌ {A = ℕ} 0 1 = cc in omega arith)
is_visible_with is_unreached n e = absurd (let z : ◌≡◌ {A = ℕ} 0 1 = cc in omega arith)

is_unreached_with : (s : Standing) (n : ℕ) → with_steps s n ≡ as_unreached → s ≡ is_unreached
unfolding with_steps
is_unreached_with is_visible n e = absurd (let z : ◌≡◌ {A = ℕ} 0 1 = cc in omega arith)
is_unreached_with is_shadowed n e = absurd (let z : ◌≡◌ {A = ℕ} 0 1 = cc in omega arith)
is_unreached_with is_unreached n e = refl

pub is_shadowed_with : (s : Standing) (m n : ℕ) → with_steps s m ≡ as_shadowed n → (s ≡ is_shadowed) × (m ≡ n)
unfolding with_steps
is_shadowed_with is_visible m n e = absurd (let z : ◌≡◌ {A = ℕ} 0 1 = cc in omega arith)
is_shadowed_with is_shadowed m n e = (refl, cc)
is_shadowed_with is_unreached m n e = absurd (let z : ◌≡◌ {A = ℕ} 0 1 = cc in omega arith)

module _ (L : Language) where
  step_self : (h : Hop L) → same_step L h h ≡ true
  unfolding same_step same_hop
  step_self h = and_both _ _ (eq-eqb (L.label h.step) _ refl) (eq-eqb h.to _ refl)

  step_flip : (h k : Hop L) → same_step L h k ≡ true → same_step L k h ≡ true
  unfolding same_step same_hop
  step_flip h k t =
      and_both _ _ (eq-eqb _ _ (sym (eqb-true (L.label h.step) (L.label k.step) (and_left _ _ t))))
      (eq-eqb _ _ (sym (eqb-true h.to k.to (and_right (eqb (L.label h.step) (L.label k.step)) _ t))))

  -- one step more, or a difference
  module _ (h k : Hop L) (r p : List (Hop L)) where
    pub agree_on : same_step L h k ≡ true → agree_hops L (h ∷ r) (k ∷ p) ≡ suc (agree_hops L r p)
    unfolding agree_hops
    agree_on e = rw (e, agree_hops)

    pub agree_off : same_step L h k ≡ false → agree_hops L (h ∷ r) (k ∷ p) ≡ 0
    unfolding agree_hops
    agree_off e = rw (e, agree_hops)

  pub agree_ended : (p : List (Hop L)) → agree_hops L [] p ≡ 0
  unfolding agree_hops
  agree_ended p = refl

  pub agree_over : (r : List (Hop L)) → agree_hops L r [] ≡ 0
  unfolding agree_hops
  agree_over [] = refl
  agree_over (h ∷ r) = refl

  hops_equal : (p : List (Hop L)) → agree_hops L p p ≡ length p
  hops_equal [] = agree_ended []
  hops_equal (h ∷ p) = agree_on h h p p (step_self h) ∙ ap suc (hops_equal p)

  hops_flip : (r p : List (Hop L)) → agree_hops L r p ≡ agree_hops L p r
  hops_flip [] p = agree_ended p ∙ sym (agree_over p)
  hops_flip (h ∷ r) [] = agree_over (h ∷ r) ∙ sym (agree_ended (h ∷ r))
  hops_flip (h ∷ r) (k ∷ p) =
      ⊎_elim (λ e. agree_on h k r p e ∙ ap suc (hops_flip r p) ∙ sym (agree_on k h p r (step_flip h k e)))
      (λ e. agree_off h k r p e ∙ sym (agree_off k h p r (not_true _ (λ t. true_false (step_flip k h t) e)))) (Two (same_step L h k))

  pub agree_within : (r p : List (Hop L)) → agree_hops L r p ≤ length p
  agree_within [] p = let z = agree_ended p in omega arith
  agree_within (h ∷ r) [] = let z = agree_over (h ∷ r) in omega arith
  agree_within (h ∷ r) (k ∷ p) =
      let ih = agree_within r p in
      ⊎_elim (λ e. let z = agree_on h k r p e in omega arith) (λ e. let z = agree_off h k r p e in omega arith) (Two (same_step L h k))

  pub agree_from : (r p : Path L) → r.start ≡ p.start → agree L r p ≡ agree_hops L r.hops p.hops
  unfolding agree
  agree_from r p e = rw (eq-eqb r.start p.start e, agree)

  pub agree_apart : (r p : Path L) → (r.start ≡ p.start → ⊥) → agree L r p ≡ 0
  unfolding agree
  agree_apart r p h = rw (ne_eqb r.start p.start h, agree)

  agree_flip : (r p : Path L) → agree L r p ≡ agree L p r
  agree_flip r p =
      ⊎_elim
      (λ e. let s = eqb-true r.start p.start e in agree_from r p s ∙ hops_flip r.hops p.hops ∙ sym (agree_from p r (sym s)))
      (λ e.
      let s : r.start ≡ p.start → ⊥ = λ z. true_false (eq-eqb r.start p.start z) e in
      agree_apart r p s ∙ sym (agree_apart p r (λ z. s (sym z))))
      (Two (eqb r.start p.start))

  pub paths_agree : PathsAgree L
  paths_agree = record {
    equal = λ p. agree_from p p refl ∙ hops_equal p.hops;
    apart = agree_apart;
    symmetric = agree_flip;
  }

-- no path agrees with one in more steps than that has
pub caught_within : (L : Language) (g : Graph L) (q : Query L) (p : Path L) → caught L g q p ≤ length p.hops
unfolding caught
caught_within L g q p =
    most_within _ (length p.hops) (λ x m.
    let a = map_elim (λ (n : Node L). agree_hops L n.hops p.hops) (keep (λ (n : Node L). preferred_to L n.hops p.hops stop) (reached_nodes L g q)) m in
    let b = agree_within L a.0.hops p.hops in
    omega (arith, a.2))

module _ (L : Language) (laws : Laws L) (g : Graph L) (range : InRange L g) where
  -- steps along edges that leave one scope
  module _ (one : OneStep L) (s : ℕ) (h k : Hop L) (m : record { from = s; step = h.step; to = h.to } ∈ g.edges)
      (n : record { from = s; step = k.step; to = k.to } ∈ g.edges) where
    step_is : same_step L h k ≡ true → h ≡ k
    unfolding same_step same_hop
    step_is t =
        let e = eqb-true (L.label h.step) (L.label k.step) (and_left _ _ t) in
        let f = eqb-true h.to k.to (and_right (eqb (L.label h.step) (L.label k.step)) _ t) in
        let u = one h.step k.step (range.together _ _ m n refl f) e in
        λ i. record { step = u i; to = f i }

    pub step_whole : same_step L h k ≡ same_hop L.same_step h k
    step_whole =
        ⊎_elim (λ t. t ∙ sym ((same_hop_lem L laws h k).1 (step_is t)))
        (λ f. f ∙ sym (not_true _ (λ t. true_false (subst (λ (z : Hop L). same_step L h z ≡ true) ((same_hop_lem L laws h k).0 t) (step_self L h)) f)))
        (Two (same_step L h k))

module _ (L : Language) (laws : Laws L) (g : Graph L) (q : Query L) (range : InRange L g) (starts : q.start < g.scopes) where
  -- the numbers of steps in which reached paths that are more specific agree with these hops
  abbrev depths : List (Hop L) → List ℕ
  depths p = map (λ (n : Node L). agree_hops L n.hops p) (keep (λ (n : Node L). preferred_to L n.hops p stop) (reached_nodes L g q))

  depths_elim : (p : Path L) → p.start ≡ q.start → {x : ℕ} → x ∈ depths p.hops
      → (r : Path L) × Reached L g q r × MoreSpecific L r p × (agree L r p ≡ x)
  depths_elim p s m =
      let a = map_elim (λ (n : Node L). agree_hops L n.hops p.hops) (keep (λ (n : Node L). preferred_to L n.hops p.hops stop) (reached_nodes L g q)) m in
      let b = keep_elim (λ (n : Node L). preferred_to L n.hops p.hops stop) (reached_nodes L g q) a.1 in
      let r : Path L = record { start = q.start; hops = a.0.hops } in (
        r,
        reached_sound L laws g q range starts r a.0 refl b.0 refl,
        (recursive L laws r p (sym s)).0 ((preferred_to_lem L laws a.0.hops p.hops stop).0 b.1),
        agree_from L r p (sym s) ∙ sym a.2,
      )

  depths_intro : (p r : Path L) → Reached L g q r → MoreSpecific L r p → agree L r p ∈ depths p.hops
  depths_intro p r w m =
      let k = reached_complete L laws g q range starts r w in
      Memᴰ.cast (agree_from L r p m.same_start ∙ ap (λ (z : List (Hop L)). agree_hops L z p.hops) (sym k.3))
      (map_intro (λ (n : Node L). agree_hops L n.hops p.hops)
      (keep_intro (λ (n : Node L). preferred_to L n.hops p.hops stop) k.2
      (rw k.3 ((preferred_to_lem L laws r.hops p.hops stop).1 ((recursive L laws r p m.same_start).1 m)))))

  pub shadowed_with : (p : Path L) (n : ℕ) → ShadowedWith L g q p n ↔ (Shadowed L g q p × (caught L g q p ≡ n))
  unfolding caught
  shadowed_with p n = (to, from)
    where
      to : ShadowedWith L g q p n → Shadowed L g q p × (most (depths p.hops) ≡ n)
      to w =
          let k = depths_intro p w.catcher w.reached w.more_specific in
          let d = depths_elim p w.shadowed.reached.from_start (most_in (depths p.hops) _ k) in
          let above = w.none_more d.0 d.1 d.2 in
          let below = most_least (depths p.hops) _ k in
          (w.shadowed, omega (arith, w.agrees, d.3))

      from : Shadowed L g q p × (most (depths p.hops) ≡ n) → ShadowedWith L g q p n
      from w =
          let c = shadowed_by L laws g q range starts p w.0 in
          let d = depths_elim p w.0.reached.from_start (most_in (depths p.hops) _ (depths_intro p c.0 c.1 c.2)) in
          record {
            shadowed = w.0;
            catcher = d.0;
            reached = d.1;
            more_specific = d.2;
            agrees = d.3 ∙ w.1;
            none_more = λ r v m. let k = most_least (depths p.hops) _ (depths_intro p r v m) in omega (arith, w.1);
          }

  -- a row's standing with its number
  pub judgement_visible : (r : PathRow L) → (judgement L g q r ≡ as_visible) ↔ Entry L g q r
  unfolding judgement with_steps
  judgement_visible r = (
    λ e. (judged_is L laws g q range starts is_visible r).0 (is_visible_with (judged L g q r) _ e),
    λ w. rw ((judged_is L laws g q range starts is_visible r).1 w),
  )

  pub judgement_unreached : (r : PathRow L) → (judgement L g q r ≡ as_unreached) ↔ (¬ (Reached L g q r.path × MarkDeclared L g q r))
  unfolding judgement with_steps
  judgement_unreached r = (
    λ e. (judged_is L laws g q range starts is_unreached r).0 (is_unreached_with (judged L g q r) _ e),
    λ w. rw ((judged_is L laws g q range starts is_unreached r).1 w),
  )

  pub judgement_shadowed : (r : PathRow L) (n : ℕ)
      → (judgement L g q r ≡ as_shadowed n) ↔ (ShadowedWith L g q r.path n × MarkDeclared L g q r)
  unfolding judgement with_steps
  judgement_shadowed r n = (
    λ e.
        let s = is_shadowed_with (judged L g q r) (caught L g q r.path) n e in
        let j = (judged_is L laws g q range starts is_shadowed r).0 s.0 in
        ((shadowed_with r.path n).1 (j.0, s.1), j.1),
    λ w.
        let s = (shadowed_with r.path n).0 w.0 in
        rw ((judged_is L laws g q range starts is_shadowed r).1 (s.0, w.1), s.1),
  )

pub agree_promises : AgreePromises
agree_promises = record {
  language = λ r a b t e. (λ i. record { label = e i; turn = t e i });
  paths = paths_agree;
  query = λ L g opens q ok one. record {
    one_step = step_whole L ok.laws g ok.in_range one;
    shadowed_with = shadowed_with L ok.laws g q ok.in_range ok.starts;
    visible = judgement_visible L ok.laws g q ok.in_range ok.starts;
    shadowed = judgement_shadowed L ok.laws g q ok.in_range ok.starts;
    unreached = judgement_unreached L ok.laws g q ok.in_range ok.starts;
  };
}
