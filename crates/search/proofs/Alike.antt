-- Ends that `$` and every hop of the board compare alike to are cut alike, and the same places are
-- followed to them. Assumes nothing.
use Prim.Native.Nat.{ℕ, zero, suc}
use mathlib.Core.Path.{◌≡◌, refl, ap, ap₂, fun_ext}
use mathlib.Core.Bool.{Bool, true, false, not, ◌&&◌, ◌||◌}
use mathlib.Core.List.{List, [], ◌∷◌, ◌++◌, flat_map}
use Rattle.scope_graph.specs.Language.{◌∈◌, End, stop, by}
use Rattle.scope_graph.specs.Path.{HopOf}
use Rattle.scope_graph.specs.Computed.{NodeOf}
use Rattle.search.specs.Board.{Board, without, hop_leads, cut_here, node_at, own_hit, hop_hits, hits_from}
use Rattle.search.proofs.RulesLists.{any_of_same}

module _ {A : Type 0} (b : Board A) (prefers : End A → End A → Bool) (d e : End A)
    (stops : prefers stop d ≡ prefers stop e)
    (goes : (s : ℕ) (h : HopOf A) → h ∈ b.hops s → prefers (by h.step) d ≡ prefers (by h.step) e) where
  pub cut_alike : (fuel : ℕ) (free : ℕ → Bool) (s q : ℕ) → cut_here b prefers fuel free s q d ≡ cut_here b prefers fuel free s q e
  unfolding cut_here
  cut_alike fuel free s q =
      ap₂ (λ (x y : Bool). b.here s q && x || y) stops
      (any_of_same _ _ (b.hops s) (λ h m. ap (λ (x : Bool). x && hop_leads b fuel free q h) (goes s h m)))

  module _ (seek : ℕ → ℕ → Bool) where
    own_alike : (fuel : ℕ) (free : ℕ → Bool) (s q : ℕ) → own_hit b prefers seek d fuel free s q ≡ own_hit b prefers seek e fuel free s q
    unfolding own_hit
    own_alike fuel free s q =
        ap (λ (x : Bool). elim (seek s q && not x) as (λ _. List (NodeOf A)) [ true ↦ node_at b s q ∷ [] | false ↦ [] ]) (cut_alike fuel free s q)

    pub hits_alike : (fuel : ℕ) (free : ℕ → Bool) (s q : ℕ) → hits_from b prefers seek d fuel free s q ≡ hits_from b prefers seek e fuel free s q
    unfolding hits_from hop_hits
    hits_alike zero free s q = refl
    hits_alike (suc fuel) free s q =
        ap₂ (λ (x y : List (NodeOf A)). x ++ y) (own_alike fuel free s q)
        (ap (λ (enter : ℕ → ℕ → List (NodeOf A)). flat_map (hop_hits b prefers seek e enter fuel free s q) (b.hops s))
        (fun_ext (λ t. fun_ext (λ r. hits_alike fuel (without free t) t r))))
