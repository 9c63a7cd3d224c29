-- `spread` meets its contract: each scope's edges keep what the table held. Assumes nothing.
use mathlib.Core.Path.{refl}
use native.Mathlib.Omega.{arith}
use Rattle.search.proofs.Cells.{kept_same, kept_on}
use Rattle.search.proofs.grow.spread.Goals as goal

pub loop-init : goal.loop-init
loop-init c = (refl, kept_same _)

pub returns-then-left-eq0 : goal.returns-then-left-eq0
returns-then-left-eq0 c = record { kept = c.loop.invariant.1 }

pub least_of-t-requires : goal.least_of-t-requires
least_of-t-requires c = record { some = omega arith }

pub rest_of-rest-requires : goal.rest_of-rest-requires
rest_of-rest-requires c = record { some = omega arith }

pub loop-preserved : goal.loop-preserved
loop-preserved c = (omega arith, kept_on _ _ _ c.loop.invariant.1 c.spread_from.ensures.kept)

pub returns : goal.returns
returns c = record { kept = c.loop.invariant.1 }
