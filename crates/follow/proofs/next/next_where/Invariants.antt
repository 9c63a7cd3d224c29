use Prim.Native.Nat.{suc, ◌-◌}
use Rattle.block.specs.Block.{first_edge}
use Rattle.block.specs.Ask.{ask_goal}
use Rattle.search.specs.Conditions.{Known}
use Rattle.follow.specs.Steps.{Skipped}
use Rattle.follow.proofs.next.next_where.Given as goal

abbrev pub invariant-loop-i : goal.invariant-loop-i
invariant-loop-i g l = Known l.block (ask_goal l.ask) l.n l.more × Skipped l.block l.ask l.onward l.n l.p l.i

abbrev pub decreases-loop-i : goal.decreases-loop-i
decreases-loop-i g l = first_edge l.block (suc l.n.scope) - l.i
