use Prim.Native.Nat.{suc, ◌-◌}
use Rattle.block.specs.Block.{first_edge}
use Rattle.search.proofs.Measure.{over, lex_by}
use Rattle.follow.proofs.nodes.+follow_at_follow_from.Given as goal

abbrev pub decreases-follow_at : goal.decreases-follow_at
decreases-follow_at l = lex_by (over l.on.now.block.now) (suc l.node.left) 0

abbrev pub decreases-follow_from : goal.decreases-follow_from
decreases-follow_from l = lex_by (over l.on.now.block.now) l.node.left (first_edge l.on.now.block.now (suc l.node.scope) - l.next.at)
