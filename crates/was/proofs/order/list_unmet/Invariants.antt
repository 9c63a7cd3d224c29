use Rattle.was.proofs.Walking.{Missing}
use Rattle.was.proofs.order.list_unmet.Given as goal

abbrev pub invariant-loop-s : goal.invariant-loop-s
invariant-loop-s l = Missing l.initial.to.list l.initial.to.count l.to.list l.to.count l.s
