-- The followed places of a part of what is asked for are that part of the followed places. Assumes
-- nothing.
use Prim.Native.Nat.{ℕ, zero, suc}
use mathlib.Core.Path.{◌≡◌, refl, sym, ap, ap₂, ◌∙◌}
use mathlib.Core.Bool.{Bool, true, false, not, ◌&&◌}
use mathlib.Core.Option.{Option, some, none}
use mathlib.Core.List.{List, [], ◌∷◌, ◌++◌, map, flat_map}
use Rattle.scope_graph.specs.Language.{End, by}
use Rattle.scope_graph.specs.Path.{HopOf}
use Rattle.scope_graph.specs.Computed.{NodeOf, keep}
use Rattle.search.specs.Board.{Board, without, cut_here, node_at, after, own_hit, hop_hits, hits_from}
use Rattle.search.specs.Promises.{PartFollowed}
use Rattle.search.proofs.RulesLists.{keep_append, keep_map, keep_flat_map, flat_map_same}

module _ {A : Type 0} (b : Board A) (prefers : End A → End A → Bool) (seek part : ℕ → ℕ → Bool) (e : End A) where
  -- the part of a list of places
  abbrev parted : List (NodeOf A) → List (NodeOf A)
  parted = keep (λ n. part n.at n.state)

  -- what is asked for, but only in the part
  abbrev less : ℕ → ℕ → Bool
  less s q = seek s q && part s q

  own_part : (fuel : ℕ) (free : ℕ → Bool) (s q : ℕ) → own_hit b prefers less e fuel free s q ≡ parted (own_hit b prefers seek e fuel free s q)
  unfolding own_hit node_at keep
  own_part fuel free s q = at (seek s q) (part s q) refl (cut_here b prefers fuel free s q e)
    where
      at : (x y : Bool) → part s q ≡ y → (z : Bool)
          → ◌≡◌ {A = List (NodeOf A)} (elim (x && y && not z) as (λ _. List (NodeOf A)) [ true ↦ node_at b s q ∷ [] | false ↦ [] ])
          (parted (elim (x && not z) as (λ _. List (NodeOf A)) [ true ↦ node_at b s q ∷ [] | false ↦ [] ]))
      at false y h z = refl
      at true true h false = rw (h, keep)
      at true true h true = refl
      at true false h false = rw (h, keep)
      at true false h true = refl

  -- what is followed behind a hop, by whether it is cut, is free and has a state behind it
  abbrev entered : (ℕ → ℕ → List (NodeOf A)) → HopOf A → Bool → Bool → Option ℕ → List (NodeOf A)
  entered enter h x f o =
      elim x as (λ _. List (NodeOf A)) [
        | true ↦ []
        | false ↦ elim f as (λ _. List (NodeOf A)) [
          | false ↦ []
          | true ↦ elim o as (λ _. List (NodeOf A)) [ none ↦ [] | some r ↦ map (after b h) (enter h.to r) ]
        ]
      ]

  -- behind a hop, if it holds of what is entered
  module _ (few many : ℕ → ℕ → List (NodeOf A)) (same : (t r : ℕ) → few t r ≡ parted (many t r)) (fuel : ℕ) (free : ℕ → Bool) (s q : ℕ) where
    hop_part : (h : HopOf A) → hop_hits b prefers less e few fuel free s q h ≡ parted (hop_hits b prefers seek e many fuel free s q h)
    unfolding hop_hits after keep
    hop_part h = at (cut_here b prefers fuel free s q (by h.step)) (free h.to) (b.next q h.step)
      where
        at : (x f : Bool) (o : Option ℕ) → entered few h x f o ≡ parted (entered many h x f o)
        at true f o = refl
        at false false o = refl
        at false true none = refl
        at false true (some r) = ap (map (after b h)) (same h.to r) ∙ sym (keep_map (λ n. part n.at n.state) (after b h) (many h.to r))

  followed : (fuel : ℕ) (free : ℕ → Bool) (s q : ℕ) → hits_from b prefers less e fuel free s q ≡ parted (hits_from b prefers seek e fuel free s q)
  unfolding hits_from keep
  followed zero free s q = refl
  followed (suc fuel) free s q =
      ap₂ (λ (x y : List (NodeOf A)). x ++ y) (own_part fuel free s q)
      (flat_map_same (hop_hits b prefers less e few fuel free s q) (λ h. parted (hop_hits b prefers seek e many fuel free s q h)) (b.hops s)
      (λ h m. hop_part few many (λ t r. followed fuel (without free t) t r) fuel free s q h)
      ∙ sym (keep_flat_map (λ n. part n.at n.state) (hop_hits b prefers seek e many fuel free s q) (b.hops s)))
      ∙ sym (keep_append (λ n. part n.at n.state) (own_hit b prefers seek e fuel free s q)
      (flat_map (hop_hits b prefers seek e many fuel free s q) (b.hops s)))
    where
      few : ℕ → ℕ → List (NodeOf A)
      few t r = hits_from b prefers less e fuel (without free t) t r

      many : ℕ → ℕ → List (NodeOf A)
      many t r = hits_from b prefers seek e fuel (without free t) t r

pub part_followed : {A : Type 0} (b : Board A) → PartFollowed b
part_followed b prefers seek part e fuel free s q = followed b prefers seek part e fuel free s q
