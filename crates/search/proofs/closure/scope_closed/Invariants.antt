use Rattle.block.specs.Sets.{has_scope}
use Rattle.search.specs.Steps.{ScopeClosed}
use Rattle.search.specs.Tables.{place_flag}
use Rattle.search.specs.Conditions.{way_of}
use Rattle.search.proofs.Closing.{OnClosed}
use Rattle.search.proofs.closure.scope_closed.Given as goal

abbrev pub invariant-loop-p : goal.invariant-loop-p
invariant-loop-p l = OnClosed l.block (way_of l.block l.cutting) (has_scope l.free) (place_flag l.table) l.s l.p → ScopeClosed l.block (way_of l.block l.cutting) (has_scope l.free) (place_flag l.table) l.s
