-- `spread_from` meets its contract: each edge keeps what the table held. Assumes nothing.
use mathlib.Core.Path.{refl}
use native.Mathlib.Omega.{arith}
use Rattle.search.proofs.Cells.{kept_same, kept_on}
use Rattle.search.proofs.grow.spread_from.Goals as goal

pub offset_bounds-table-t : goal.offset_bounds-table-t
offset_bounds-table-t c = omega arith

pub bounds-table-t : goal.bounds-table-t
bounds-table-t c = omega arith

pub overflow_add-t : goal.overflow_add-t
overflow_add-t c = omega arith

pub loop-p-init : goal.loop-p-init
loop-p-init c = (refl, kept_same _)

pub loop-p-preserved : goal.loop-p-preserved
loop-p-preserved c = (omega arith, kept_on _ _ _ c.loop-p.invariant.1 c.spread_edge-new.ensures.kept)

pub shape_of-table : goal.shape_of-table
shape_of-table c = c.loop-p.invariant.0

pub returns : goal.returns
returns c = record { kept = c.loop-p.invariant.1 }
