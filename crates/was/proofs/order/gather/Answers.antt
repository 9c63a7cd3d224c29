-- `gather` meets its contract. The loop's invariant is `Gathering`: the row at p is the next of the
-- scope, and what is gathered so far, with what is left, is what is due. Assumes nothing.
use Prim.Native.Nat.{◌+◌}
use mathlib.Core.Path.{ap}
use native.Mathlib.Omega.{arith}
use Rattle.graph_table.specs.declared.rows.EdgeRow.{EdgeRow}
use Rattle.was.proofs.RowLaws.{next_past}
use Rattle.was.proofs.Walking.{gathering_start, gathering_end, gathering_below, gathering_next}
use Rattle.was.proofs.order.gather.Goals as goal

pub loop-p-init : goal.loop-p-init
loop-p-init c = gathering_start c.args.edges.now c.args.s c.args.to.now.list c.args.to.now.count _ c.requires.listed c.requires.scopes c.next_row-p.ensures.answer

pub edge_row-requires : goal.edge_row-requires
edge_row-requires c = record { whole = (c.loop-p.invariant.row c.loop-p-test.true).0 }

pub add-requires : goal.add-requires
add-requires c = let t = ap (λ (r : EdgeRow). r.to) c.edge_row.ensures.answer in let b = gathering_below c.args.edges.now c.args.s c.args.to.now.list c.args.to.now.count c.loop-p.to.list c.loop-p.to.count c.loop-p.p c.loop-p.invariant c.loop-p-test.true in record { scope = rw t b; listed = c.loop-p.invariant.held.begins }

pub loop-p-smaller : goal.loop-p-smaller
loop-p-smaller c = let m = next_past c.args.edges.now c.args.s (c.loop-p.p + 6) _ c.next_row-p-in-loop-p.ensures.answer c.loop-p.p c.loop-p-test.true (omega arith) in omega arith

pub loop-p-preserved : goal.loop-p-preserved
loop-p-preserved c = gathering_next c.args.edges.now c.args.s c.args.to.now.list c.args.to.now.count c.loop-p.to.list c.loop-p.to.count c.loop-p.p c.loop-p.invariant c.loop-p-test.true _ (ap (λ (r : EdgeRow). r.to) c.edge_row.ensures.answer) _ _ _ c.add.ensures.count c.add.ensures.memory c.next_row-p-in-loop-p.ensures.answer

pub returns : goal.returns
returns c = let told = gathering_end c.args.edges.now c.args.s c.args.to.now.list c.args.to.now.count c.loop-p.to.list c.loop-p.to.count c.loop-p.p c.loop-p.invariant c.loop-p-test.false in record { count = told.0; memory = told.1 }
