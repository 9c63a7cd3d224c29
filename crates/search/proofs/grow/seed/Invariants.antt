use Prim.Native.Nat.{ℕ}
use mathlib.Core.Path.{◌≡◌}
use mathlib.Core.Bool.{true}
use lib.ListN.{length}
use Rattle.block.specs.Sets.{has_scope, has_state}
use Rattle.search.specs.Tables.{place_flag}
use Rattle.search.proofs.Passing.{Passed}
use Rattle.search.proofs.grow.seed.Given as goal

abbrev pub invariant-loop-left : goal.invariant-loop-left
invariant-loop-left l = (length l.table ≡ length l.initial.table) × Passed (has_scope l.scopes) (λ (k : ℕ). (q : ℕ) → has_state l.states q ≡ true → place_flag l.table k q ≡ true) l.left

abbrev pub decreases-loop-left : goal.decreases-loop-left
decreases-loop-left l = l.left
