use Prim.Native.Nat.{ℕ}
use mathlib.Core.Path.{◌≡◌}
use mathlib.Core.Bool.{false}
use Rattle.block.specs.Sets.{has_state}
use Rattle.block.specs.Block.{next_cell}
use Rattle.search.proofs.Passing.{Passed}
use Rattle.search.proofs.closure.leads_into.Given as goal

abbrev pub invariant-loop-left : goal.invariant-loop-left
invariant-loop-left l = Passed (has_state l.from) (λ (k : ℕ). has_state l.set (next_cell l.block k l.label) ≡ false) l.left

abbrev pub decreases-loop-left : goal.decreases-loop-left
decreases-loop-left l = l.left
