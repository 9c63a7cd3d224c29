use Prim.Native.Nat.{ℕ}
use Rattle.block.specs.Sets.{has_scope}
use Rattle.search.specs.Tables.{place_flag}
use Rattle.search.specs.Conditions.{way_of}
use Rattle.search.specs.Steps.{ScopeClosed}
use Rattle.search.proofs.Passing.{Passed}
use Rattle.search.proofs.closure.is_closed.Given as goal

abbrev pub invariant-loop-left : goal.invariant-loop-left
invariant-loop-left l = Passed (has_scope l.free) (λ (k : ℕ). ScopeClosed l.block (way_of l.block l.cutting) (has_scope l.free) (place_flag l.table) k) l.left

abbrev pub decreases-loop-left : goal.decreases-loop-left
decreases-loop-left l = l.left
