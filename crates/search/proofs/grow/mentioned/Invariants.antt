use Prim.{Unit}
use Rattle.search.proofs.grow.mentioned.Given as goal

abbrev pub invariant-loop-label : goal.invariant-loop-label
invariant-loop-label l = Unit {0}
