-- What lies behind a scope depends only on the free scopes that can be come to from it by free
-- scopes, and on how many hops are left only if they are fewer than those. Assumes nothing.
use Prim.Native.Nat.{ℕ, zero, suc}
use mathlib.Core.Path.{◌≡◌, refl, sym, ap, ap₂, ◌∙◌}
use mathlib.Core.Bool.{Bool, true, false, not, ◌&&◌, ◌||◌}
use mathlib.Core.Option.{Option, some, none}
use mathlib.Core.List.{List, [], ◌∷◌, ◌++◌, map}
use Rattle.scope_graph.specs.Language.{◌∈◌, End, stop, by}
use Rattle.scope_graph.specs.Path.{HopOf}
use Rattle.scope_graph.specs.Computed.{NodeOf}
use Rattle.scope_graph.proofs.Lists.{true_false, not_true, and_left, and_right, and_both}
use Rattle.search.specs.Board.{Board, without, leads_to, exists_from, hop_leads, cut_here, node_at, after, own_hit, hop_hits, hits_from}
use Rattle.search.proofs.Closed.{Within}
use Rattle.search.proofs.RulesLists.{any_of_same, flat_map_same}
use Rattle.beginnings.specs.Steps.{Few}
use Rattle.beginnings.proofs.Few.{without_both}

-- `few` are free scopes, among them each free one that a hop leads to from s or from one of them
pub record Enclosed {A : Type 0} (b : Board A) (free few : ℕ → Bool) (s : ℕ) : Type 0 where
  pub less : Within few free
  pub first : (h : HopOf A) → h ∈ b.hops s → free h.to ≡ true → few h.to ≡ true
  pub on : (u : ℕ) (h : HopOf A) → few u ≡ true → h ∈ b.hops u → free h.to ≡ true → few h.to ≡ true

-- any scopes enclose themselves
pub enclosed_same : {A : Type 0} (b : Board A) (free : ℕ → Bool) (s : ℕ) → Enclosed b free free s
enclosed_same b free s = record { less = λ t e. e; first = λ h m e. e; on = λ u h o m e. e }

bools_same : (x y : Bool) → (x ≡ true → y ≡ true) → (y ≡ true → x ≡ true) → x ≡ y
bools_same true y f g = sym (f refl)
bools_same false y f g = sym (not_true y (λ e. true_false (g e) refl))

module _ {A : Type 0} (b : Board A) where
  -- with one of them taken, from that one on
  enclosed_on : (free few : ℕ → Bool) (s t : ℕ) → few t ≡ true → Enclosed b free few s → Enclosed b (without free t) (without few t) t
  unfolding without
  enclosed_on free few s t own c = record {
    less = without_both few free t c.less;
    first = λ h m e. and_both (few h.to) _ (c.on t h own m (and_left (free h.to) _ e)) (and_right (free h.to) _ e);
    on = λ u h o m e. and_both (few h.to) _ (c.on u h (and_left (few u) _ o) m (and_left (free h.to) _ e)) (and_right (free h.to) _ e);
  }

  module _ (free few : ℕ → Bool) (s : ℕ) (c : Enclosed b free few s) where
    same_to : (h : HopOf A) → h ∈ b.hops s → free h.to ≡ few h.to
    same_to h m = bools_same (free h.to) (few h.to) (c.first h m) (c.less h.to)

    -- a hop leads to the same, if what lies behind each scope that is entered is the same
    leads_same : (one two : ℕ → ℕ → Bool) (q : ℕ) (h : HopOf A) → h ∈ b.hops s → ((t r : ℕ) → few t ≡ true → one t r ≡ two t r)
        → leads_to b one free q h ≡ leads_to b two few q h
    unfolding leads_to
    leads_same one two q h m ih = rw (same_to h m, leads_to) (at (few h.to) refl (b.next q h.step))
      where
        at : (f : Bool) → few h.to ≡ f → (o : Option ℕ)
            → ◌≡◌ {A = Bool} (elim f as (λ _. Bool) [ false ↦ false | true ↦ elim o as (λ _. Bool) [ none ↦ false | some r ↦ one h.to r ] ])
            (elim f as (λ _. Bool) [ false ↦ false | true ↦ elim o as (λ _. Bool) [ none ↦ false | some r ↦ two h.to r ] ])
        at false e o = refl
        at true e none = refl
        at true e (some r) = ih h.to r e

    exists_step : (n m : ℕ) (q : ℕ) → ((t r : ℕ) → few t ≡ true → exists_from b n (without free t) t r ≡ exists_from b m (without few t) t r)
        → exists_from b (suc n) free s q ≡ exists_from b (suc m) few s q
    unfolding exists_from
    exists_step n m q ih =
        ap (λ (x : Bool). elim (b.here s q) as (λ _. Bool) [ true ↦ true | false ↦ x ])
        (any_of_same (leads_to b (λ t r. exists_from b n (without free t) t r) free q) (leads_to b (λ t r. exists_from b m (without few t) t r) few q) (b.hops s)
        (λ h k. leads_same _ _ q h k ih))

  -- with enough hops left, what is sought is behind the scope by all free scopes or by none
  pub narrow_exists : (n m : ℕ) (free few : ℕ → Bool) (s q : ℕ) → Few n few → Few m few → Enclosed b free few s
      → exists_from b (suc n) free s q ≡ exists_from b (suc m) few s q
  unfolding Few
  narrow_exists zero m free few s q f k c = exists_step free few s c zero m q (λ t r e. absurd (true_false e (f t)))
  narrow_exists (suc n) zero free few s q f k c = exists_step free few s c (suc n) zero q (λ t r e. absurd (true_false e (k t)))
  narrow_exists (suc n) (suc m) free few s q f k c =
      exists_step free few s c (suc n) (suc m) q
      (λ t r e. narrow_exists n m (without free t) (without few t) t r (f t e) (k t e) (enclosed_on free few s t e c))

  -- and so an end is cut by all or by none
  module _ (prefers : End A → End A → Bool) where
    cut_step : (n m : ℕ) (free few : ℕ → Bool) (s q : ℕ) (e : End A) → Enclosed b free few s
        → ((t r : ℕ) → few t ≡ true → exists_from b n (without free t) t r ≡ exists_from b m (without few t) t r)
        → cut_here b prefers n free s q e ≡ cut_here b prefers m few s q e
    unfolding cut_here hop_leads
    cut_step n m free few s q e c ih =
        ap (λ (x : Bool). b.here s q && prefers stop e || x)
        (any_of_same _ _ (b.hops s) (λ h k. ap (λ (x : Bool). prefers (by h.step) e && x) (leads_same free few s c _ _ q h k ih)))

    module _ (seek : ℕ → ℕ → Bool) (e : End A) where
      own_same : (n m : ℕ) (free few : ℕ → Bool) (s q : ℕ) → cut_here b prefers n free s q e ≡ cut_here b prefers m few s q e
          → own_hit b prefers seek e n free s q ≡ own_hit b prefers seek e m few s q
      unfolding own_hit
      own_same n m free few s q cut =
          ap (λ (x : Bool). elim (seek s q && not x) as (λ _. List (NodeOf A)) [ true ↦ node_at b s q ∷ [] | false ↦ [] ]) cut

      hop_same : (one two : ℕ → ℕ → List (NodeOf A)) (n m : ℕ) (free few : ℕ → Bool) (s q : ℕ) (h : HopOf A)
          → cut_here b prefers n free s q (by h.step) ≡ cut_here b prefers m few s q (by h.step) → free h.to ≡ few h.to
          → ((t r : ℕ) → few t ≡ true → one t r ≡ two t r)
          → hop_hits b prefers seek e one n free s q h ≡ hop_hits b prefers seek e two m few s q h
      unfolding hop_hits
      hop_same one two n m free few s q h cut same ih =
          ap₂ (λ (x f : Bool). hits one x f (b.next q h.step)) cut same
          ∙ at (cut_here b prefers m few s q (by h.step)) (few h.to) refl (b.next q h.step)
        where
          hits : (ℕ → ℕ → List (NodeOf A)) → Bool → Bool → Option ℕ → List (NodeOf A)
          hits enter x f o =
              elim x as (λ _. List (NodeOf A)) [
                | true ↦ []
                | false ↦ elim f as (λ _. List (NodeOf A)) [
                  | false ↦ []
                  | true ↦ elim o as (λ _. List (NodeOf A)) [ none ↦ [] | some r ↦ map (after b h) (enter h.to r) ]
                ]
              ]

          at : (x f : Bool) → few h.to ≡ f → (o : Option ℕ) → hits one x f o ≡ hits two x f o
          at true f k o = refl
          at false false k o = refl
          at false true k none = refl
          at false true k (some r) = ap (map (after b h)) (ih h.to r k)

      hits_step : (n m : ℕ) (free few : ℕ → Bool) (s q : ℕ) → Enclosed b free few s
          → ((t r : ℕ) → few t ≡ true → exists_from b n (without free t) t r ≡ exists_from b m (without few t) t r)
          → ((t r : ℕ) → few t ≡ true → hits_from b prefers seek e n (without free t) t r ≡ hits_from b prefers seek e m (without few t) t r)
          → hits_from b prefers seek e (suc n) free s q ≡ hits_from b prefers seek e (suc m) few s q
      unfolding hits_from
      hits_step n m free few s q c lead ih =
          ap₂ (λ (x y : List (NodeOf A)). x ++ y) (own_same n m free few s q (cut_step n m free few s q e c lead))
          (flat_map_same _ _ (b.hops s)
          (λ h k. hop_same _ _ n m free few s q h (cut_step n m free few s q (by h.step) c lead) (same_to free few s c h k) ih))

      -- the same places are followed by all free scopes and by those that can be come to
      pub narrow_hits : (n m : ℕ) (free few : ℕ → Bool) (s q : ℕ) → Few n few → Few m few → Enclosed b free few s
          → hits_from b prefers seek e (suc n) free s q ≡ hits_from b prefers seek e (suc m) few s q
      unfolding Few
      narrow_hits zero m free few s q f k c =
          hits_step zero m free few s q c (λ t r y. absurd (true_false y (f t))) (λ t r y. absurd (true_false y (f t)))
      narrow_hits (suc n) zero free few s q f k c =
          hits_step (suc n) zero free few s q c (λ t r y. absurd (true_false y (k t))) (λ t r y. absurd (true_false y (k t)))
      narrow_hits (suc n) (suc m) free few s q f k c =
          hits_step (suc n) (suc m) free few s q c
          (λ t r y. narrow_exists n m (without free t) (without few t) t r (f t y) (k t y) (enclosed_on free few s t y c))
          (λ t r y. narrow_hits n m (without free t) (without few t) t r (f t y) (k t y) (enclosed_on free few s t y c))
