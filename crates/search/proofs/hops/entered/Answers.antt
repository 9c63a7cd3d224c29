-- `entered` meets its contract. Assumes nothing.
use mathlib.Core.Path.{refl}
use native.Mathlib.Omega.{arith}
use Rattle.block.specs.Block.{hop_of}
use Rattle.search.proofs.hops.entered.Goals as goal

pub returns : goal.returns
unfolding hop_of
returns c = record { answer = record { free = rw c.edge_scope-scope.ensures.answer at c.taken-free.ensures.answer; left = omega arith; scope = c.edge_scope-scope.ensures.answer; state = refl } }
