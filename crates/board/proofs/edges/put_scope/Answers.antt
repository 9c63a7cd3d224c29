use Rattle.board.proofs.EdgeLaws.{scoping_none, scoping_found, scoping_missed, scoping_full, row_whole}
use native.Mathlib.Omega.{arith}
use Rattle.board.proofs.edges.put_scope.Goals as goal

pub loop-now-init : goal.loop-now-init
loop-now-init c = scoping_none c.args.rows.now c.args.s c.args.put c.args.block.now

pub hop_cell-cell-requires : goal.hop_cell-cell-requires
hop_cell-cell-requires c = record { whole = row_whole c.args.rows.now c.args.s c.args.put c.args.block.now c.loop-now.block c.loop-now.now c.loop-now.invariant c.next_row-found.result c.next_row-found.ensures.answer (omega arith) }

pub loop-now-preserved : goal.loop-now-preserved
loop-now-preserved c = scoping_found c.args.rows.now c.args.s c.args.put c.args.block.now c.loop-now.block c.loop-now.now c.loop-now.invariant
    c.next_row-found.result c.hop_cell-cell.result c.max.result c.next_row-found.ensures.answer (omega arith) (omega arith) (omega arith)
    c.hop_cell-cell.ensures.answer (omega (arith, c.max.ensures)) (omega (arith, c.max.ensures))

pub returns-then-rows-found : goal.returns-then-rows-found
returns-then-rows-found c = record { put = scoping_missed c.args.rows.now c.args.s c.args.put c.args.block.now c.loop-now.block c.loop-now.now c.loop-now.invariant c.next_row-found.result c.next_row-found.ensures.answer c.if-rows-found.true }

pub returns-after-loop-now : goal.returns-after-loop-now
returns-after-loop-now c = record { put = scoping_full c.args.rows.now c.args.s c.args.put c.args.block.now c.loop-now.block c.loop-now.now c.loop-now.invariant (omega arith) }
