-- Nothing lies behind a place that a closed table lacks, so the search finds nothing there. Assumes
-- nothing.
use Prim.Native.Nat.{ℕ, zero, suc}
use mathlib.Core.Path.{◌≡◌, refl, sym}
use mathlib.Core.Bool.{Bool, true, false, not, ◌&&◌, ◌||◌}
use mathlib.Core.Option.{Option, some, none}
use mathlib.Core.List.{List, [], map}
use Rattle.scope_graph.specs.Language.{◌∈◌, End, stop, by}
use Rattle.scope_graph.specs.Path.{HopOf}
use Rattle.scope_graph.specs.Computed.{NodeOf}
use Rattle.scope_graph.proofs.Lists.{true_false, not_true, and_left}
use Rattle.search.specs.Board.{Board, without, leads_to, exists_from, cut_here, after, own_hit, hop_hits, hits_from}
use Rattle.search.specs.Live.{any_way, open_way, Closed}
use Rattle.search.proofs.RulesLists.{any_of_no, flat_map_no}

-- every scope that the one has free the other has
abbrev pub Within : (ℕ → Bool) → (ℕ → Bool) → Type 0
Within few many = (t : ℕ) → few t ≡ true → many t ≡ true

pub without_within : (few many : ℕ → Bool) (s : ℕ) → Within few many → Within (without few s) many
unfolding without
without_within few many s w t h = w t (and_left (few t) _ h)

-- a way whose stop is not cut is open
or_no : (a b : Bool) → (a || b) ≡ false → not a ≡ true
or_no true b h = sym h
or_no false b h = refl

module _ {A : Type 0} (b : Board A) where
  -- a closed table stays closed with fewer free scopes
  pub closed_less : (seek : ℕ → ℕ → Bool) (way : ℕ → ℕ → A → Bool) (few many : ℕ → Bool) (live : ℕ → ℕ → Bool)
      → Within few many → Closed b seek way many live → Closed b seek way few live
  closed_less seek way few many live w c = record {
    asked = c.asked;
    back = λ s q h r own m f e v. c.back s q h r (w s own) m (w h.to f) e v;
  }

  -- what a walk asks about is a place of a free scope, and a hop that it takes leads to one: so on
  -- from place to place
  module _ (free : ℕ → Bool) (live : ℕ → ℕ → Bool) where
    -- a place that the table lacks is not asked for, and no step leads from it to a place that the
    -- table holds
    unasked : (seek : ℕ → ℕ → Bool) (way : ℕ → ℕ → A → Bool) → Closed b seek way free live → (s q : ℕ) → live s q ≡ false
        → seek s q ≡ false
    unasked seek way c s q d = not_true (seek s q) (λ k. true_false (c.asked s q k) d)

    beyond : (seek : ℕ → ℕ → Bool) (way : ℕ → ℕ → A → Bool) → Closed b seek way free live → (s q : ℕ) → free s ≡ true → live s q ≡ false
        → (h : HopOf A) (r : ℕ) → h ∈ b.hops s → free h.to ≡ true → b.next q h.step ≡ some r → way s q h.step ≡ true
        → live h.to r ≡ false
    beyond seek way c s q own d h r m f e v = not_true (live h.to r) (λ k. true_false (c.back s q h r own m f e v k) d)

    -- nothing is reached from there
    pub closed_exists : Closed b b.here (any_way b) free live → (fuel : ℕ) (few : ℕ → Bool) (s q : ℕ) → Within few free → free s ≡ true
        → live s q ≡ false → exists_from b fuel few s q ≡ false
    unfolding exists_from leads_to any_way
    closed_exists c zero few s q w own d = refl
    closed_exists c (suc fuel) few s q w own d =
        rw (unasked b.here (any_way b) c s q d, exists_from)
        (any_of_no _ (b.hops s) (λ h m. hop h m (few h.to) refl (b.next q h.step) refl
        (λ t r. closed_exists c fuel (without few t) t r (without_within few free t w))))
      where
        hop : (h : HopOf A) → h ∈ b.hops s → (f : Bool) → few h.to ≡ f → (o : Option ℕ) → b.next q h.step ≡ o
            → ((t r : ℕ) → free t ≡ true → live t r ≡ false → exists_from b fuel (without few t) t r ≡ false)
            → (elim f as (λ _. Bool) [
              | false ↦ false
              | true ↦ elim o as (λ _. Bool) [ none ↦ false | some r ↦ exists_from b fuel (without few h.to) h.to r ]
            ]) ≡ false
        hop h m false e o k ih = refl
        hop h m true e none k ih = refl
        hop h m true e (some r) k ih =
            ih h.to r (w h.to e) (beyond b.here (any_way b) c s q own d h r m (w h.to e) k refl)

    own_no : (prefers : End A → End A → Bool) (seek : ℕ → ℕ → Bool) (e : End A) (fuel : ℕ) (few : ℕ → Bool) (s q : ℕ) → seek s q ≡ false
        → own_hit b prefers seek e fuel few s q ≡ []
    unfolding own_hit
    own_no prefers seek e fuel few s q d = rw (d, own_hit)

    -- and nothing that is asked for is followed from there
    pub closed_hits : (prefers : End A → End A → Bool) (seek : ℕ → ℕ → Bool) (e : End A)
        → Closed b seek (open_way b prefers) free live → (fuel : ℕ) (few : ℕ → Bool) (s q : ℕ) → Within few free → free s ≡ true
        → live s q ≡ false → hits_from b prefers seek e fuel few s q ≡ []
    unfolding hits_from hop_hits cut_here open_way
    closed_hits prefers seek e c zero few s q w own d = refl
    closed_hits prefers seek e c (suc fuel) few s q w own d =
        rw (own_no prefers seek e fuel few s q (unasked seek (open_way b prefers) c s q d))
        (flat_map_no _ (b.hops s) (λ h m. hop h m (cut_here b prefers fuel few s q (by h.step)) refl (few h.to) refl
        (b.next q h.step) refl (λ t r. closed_hits prefers seek e c fuel (without few t) t r (without_within few free t w))))
      where
        hop : (h : HopOf A) → h ∈ b.hops s → (x : Bool) → cut_here b prefers fuel few s q (by h.step) ≡ x → (f : Bool) → few h.to ≡ f
            → (o : Option ℕ) → b.next q h.step ≡ o
            → ((t r : ℕ) → free t ≡ true → live t r ≡ false → hits_from b prefers seek e fuel (without few t) t r ≡ [])
            → ◌≡◌ {A = List (NodeOf A)} (elim x as (λ _. List (NodeOf A)) [
              | true ↦ []
              | false ↦ elim f as (λ _. List (NodeOf A)) [
                | false ↦ []
                | true ↦ elim o as (λ _. List (NodeOf A)) [
                  | none ↦ []
                  | some r ↦ map (after b h) (hits_from b prefers seek e fuel (without few h.to) h.to r)
                ]
              ]
            ]) []
        hop h m true y f z o k ih = refl
        hop h m false y false z o k ih = refl
        hop h m false y true z none k ih = refl
        hop h m false y true z (some r) k ih =
            rw (ih h.to r (w h.to z)
            (beyond seek (open_way b prefers) c s q own d h r m (w h.to z) k (or_no (b.here s q && prefers stop (by h.step)) _ y)))
