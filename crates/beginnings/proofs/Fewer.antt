-- Where no step is cut, fewer places are followed by fewer free scopes. Assumes nothing.
use Prim.Native.Nat.{ℕ, zero, suc, ◌≤◌}
use mathlib.Core.Path.{◌≡◌, refl, sym, ap, ◌∙◌}
use mathlib.Core.Bool.{Bool, true, false, not, ◌&&◌}
use mathlib.Core.Option.{Option, some, none}
use mathlib.Core.List.{List, [], ◌∷◌, map, flat_map}
use native.Mathlib.Omega.{arith}
use lib.ListN.{length, length-append, length-map}
use Rattle.scope_graph.specs.Language.{◌∈◌, End, by}
use Rattle.scope_graph.specs.Path.{HopOf}
use Rattle.scope_graph.specs.Computed.{NodeOf}
use Rattle.scope_graph.proofs.Lists.{true_false, here, there}
use Rattle.search.specs.Board.{Board, without, cut_here, node_at, after, own_hit, hop_hits, hits_from}
use Rattle.search.proofs.Closed.{Within}
use Rattle.beginnings.proofs.Few.{without_both}

flat_map_longer : {A B : Type 0} (f k : A → List B) (l : List A) → ((a : A) → a ∈ l → length (f a) ≤ length (k a))
    → length (flat_map f l) ≤ length (flat_map k l)
unfolding flat_map
flat_map_longer f k [] h = omega arith
flat_map_longer f k (x ∷ l) h =
    let one = h x here in
    let more = flat_map_longer f k l (λ a m. h a (there m)) in
    simp length-append (omega arith)

module _ {A : Type 0} (b : Board A) (prefers : End A → End A → Bool) (seek : ℕ → ℕ → Bool) (e : End A)
    (uncut : (fuel : ℕ) (free : ℕ → Bool) (s q : ℕ) (h : HopOf A) → h ∈ b.hops s → cut_here b prefers fuel free s q (by h.step) ≡ false)
    (unended : (fuel : ℕ) (free : ℕ → Bool) (s q : ℕ) → cut_here b prefers fuel free s q e ≡ false) where
  own_alike : (fuel : ℕ) (few free : ℕ → Bool) (s q : ℕ) → own_hit b prefers seek e fuel few s q ≡ own_hit b prefers seek e fuel free s q
  unfolding own_hit
  own_alike fuel few free s q =
      ap (λ (x : Bool). elim (seek s q && not x) as (λ _. List (NodeOf A)) [ true ↦ node_at b s q ∷ [] | false ↦ [] ])
      (unended fuel few s q ∙ sym (unended fuel free s q))

  hop_longer : (one two : ℕ → ℕ → List (NodeOf A)) (fuel : ℕ) (few free : ℕ → Bool) (s q : ℕ) (h : HopOf A) → h ∈ b.hops s → Within few free
      → ((t r : ℕ) → length (one t r) ≤ length (two t r))
      → length (hop_hits b prefers seek e one fuel few s q h) ≤ length (hop_hits b prefers seek e two fuel free s q h)
  unfolding hop_hits
  hop_longer one two fuel few free s q h m w ih =
      rw (uncut fuel few s q h m, uncut fuel free s q h m, hop_hits) (at (few h.to) (free h.to) (w h.to) (b.next q h.step))
    where
      hits : (ℕ → ℕ → List (NodeOf A)) → Bool → Option ℕ → List (NodeOf A)
      hits enter f o =
          elim f as (λ _. List (NodeOf A)) [
            | false ↦ []
            | true ↦ elim o as (λ _. List (NodeOf A)) [ none ↦ [] | some r ↦ map (after b h) (enter h.to r) ]
          ]

      at : (f g : Bool) → (f ≡ true → g ≡ true) → (o : Option ℕ) → length (hits one f o) ≤ length (hits two g o)
      at false g k o = omega arith
      at true false k o = absurd (true_false (k refl) refl)
      at true true k none = omega arith
      at true true k (some r) = simp length-map (ih h.to r)

  pub hits_fewer : (fuel : ℕ) (few free : ℕ → Bool) (s q : ℕ) → Within few free
      → length (hits_from b prefers seek e fuel few s q) ≤ length (hits_from b prefers seek e fuel free s q)
  unfolding hits_from
  hits_fewer zero few free s q w = omega arith
  hits_fewer (suc fuel) few free s q w =
      let own = ap length (own_alike fuel few free s q) in
      let more = flat_map_longer (hop_hits b prefers seek e (λ t r. hits_from b prefers seek e fuel (without few t) t r) fuel few s q)
      (hop_hits b prefers seek e (λ t r. hits_from b prefers seek e fuel (without free t) t r) fuel free s q) (b.hops s)
      (λ h m. hop_longer (λ t r. hits_from b prefers seek e fuel (without few t) t r) (λ t r. hits_from b prefers seek e fuel (without free t) t r) fuel few free s q h m w
      (λ t r. hits_fewer fuel (without few t) (without free t) t r (without_both few free t w))) in
      simp length-append (omega arith)
