use Prim.Native.Nat.{suc, ◌-◌}
use Rattle.block.specs.Block.{first_edge}
use Rattle.search.proofs.Measure.{over, lex_by}
use Rattle.search.proofs.exists.+exists_at_exists_from.Given as goal

abbrev pub decreases-exists_at : goal.decreases-exists_at
decreases-exists_at l = lex_by (over l.block.now) (suc l.n.left) 0

abbrev pub decreases-exists_from : goal.decreases-exists_from
decreases-exists_from l = lex_by (over l.block.now) l.n.left (first_edge l.block.now (suc l.n.scope) - l.p)
