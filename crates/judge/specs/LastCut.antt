-- The last place along a path whose own end is cut, over the search's board (02, K7): a path that
-- is reached is shadowed with so many steps (proofs/Deepest). Assumes nothing: these are
-- definitions.
use Rattle.std.specs.Prelude.{ℕ, zero, suc, ◌+◌, Bool, true, false, List, [], ◌∷◌}
use Rattle.std.proofs.Math.Option.{Option, some, none}
use Rattle.std.specs.declared.option.Option.{Option as CodeOption}
use Rattle.std.specs.declared.option.Option.TheVariants.{Some, None}
use Rattle.scope_graph.specs.Language.{End, by}
use Rattle.scope_graph.specs.Path.{HopOf}
use Rattle.search.specs.Board.{Board, without, cut_here}

-- what the code's last place means: one is cut, or none yet
unfoldable pub caught_at : CodeOption ℕ → Option ℕ
caught_at (Some place) = some place
caught_at None = none

-- a place behind a hop, counted from the hop's scope; else this one, if its end is cut
unfoldable pub deeper : Option ℕ → Bool → Option ℕ
deeper (some n) cut = some (suc n)
deeper none true = some 0
deeper none false = none

-- with the end at a place looked at: that place if the end is cut, else the last one before it
unfoldable pub latest : Option ℕ → Bool → ℕ → Option ℕ
latest last true place = some place
latest last false place = last

-- a place of what goes on from place i, counted from there; else the last one before it
unfoldable pub later_of : Option ℕ → ℕ → Option ℕ → Option ℕ
later_of last i (some n) = some (i + n)
later_of last i none = last

module _ {A : Type 0} (b : Board A) where
  -- what `enter` says of the scope and state that a hop comes to; `other` where the scope is on the
  -- path or there is no transition
  unfoldable pub leads_by : {B : Type 0} → B → (ℕ → ℕ → B) → (ℕ → Bool) → ℕ → HopOf A → B
  leads_by other enter free q h =
      elim (free h.to) [
        | false ↦ other
        | true ↦ elim (b.next q h.step) [ none ↦ other | some r ↦ enter h.to r ]
      ]

  module _ (prefers : End A → End A → Bool) where
    -- the last place along the hops where the end that they go by is cut, or the end `e` behind
    -- them: how many hops lie before it
    unfoldable pub last_cut : ℕ → (ℕ → Bool) → ℕ → ℕ → List (HopOf A) → End A → Option ℕ
    last_cut zero free s q hs e = none
    last_cut (suc fuel) free s q [] e = deeper none (cut_here b prefers fuel free s q e)
    last_cut (suc fuel) free s q (h ∷ hs) e =
        deeper (leads_by none (λ t r. last_cut fuel (without free t) t r hs e) free q h)
        (cut_here b prefers fuel free s q (by h.step))
