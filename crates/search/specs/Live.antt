-- Places worth entering. A table of scopes and states is *closed* if it holds each place that is
-- asked for and each place of a free scope from which a step leads to a place it holds; then
-- nothing lies behind a place that it lacks, so the search need not enter there. Any closed table
-- will do. Assumes nothing: these are definitions.
use Rattle.std.specs.Prelude.{ℕ, ◌≡◌, Bool, true, not, ◌&&◌}
use Rattle.std.proofs.Math.Option.{some}
use Rattle.scope_graph.specs.Language.{◌∈◌, End, stop, by}
use Rattle.scope_graph.specs.Path.{HopOf}
use Rattle.search.specs.Board.{Board}

module _ {A : Type 0} (b : Board A) where
  -- any step; or any but those that are cut wherever a path comes by them: what is sought is there
  -- itself, and stopping is preferred to the step
  unfoldable pub any_way : ℕ → ℕ → A → Bool
  any_way s q t = true

  unfoldable pub open_way : (End A → End A → Bool) → ℕ → ℕ → A → Bool
  open_way prefers s q t = not (b.here s q && prefers stop (by t))

  -- closed, for paths that go on by free scopes and such ways. A walk asks only about scopes that
  -- are free, so only their places need be held.
  pub record Closed (seek : ℕ → ℕ → Bool) (way : ℕ → ℕ → A → Bool) (free : ℕ → Bool) (live : ℕ → ℕ → Bool) : Type 0 where
    pub asked : (s q : ℕ) → seek s q ≡ true → live s q ≡ true
    pub back : (s q : ℕ) (h : HopOf A) (r : ℕ) → free s ≡ true → h ∈ b.hops s → free h.to ≡ true → b.next q h.step ≡ some r
        → way s q h.step ≡ true → live h.to r ≡ true → live s q ≡ true
