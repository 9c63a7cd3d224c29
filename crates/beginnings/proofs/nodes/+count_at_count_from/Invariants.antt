use Prim.Native.Nat.{suc, ◌-◌}
use Rattle.block.specs.Block.{first_edge}
use Rattle.search.proofs.Measure.{over, lex_by}
use Rattle.beginnings.proofs.nodes.+count_at_count_from.Given as goal

abbrev pub decreases-count_at : goal.decreases-count_at
decreases-count_at l = lex_by (over l.block.now) (suc l.node.left) 0

abbrev pub decreases-count_from : goal.decreases-count_from
decreases-count_from l = lex_by (over l.block.now) l.node.left (first_edge l.block.now (suc l.node.scope) - l.p)
