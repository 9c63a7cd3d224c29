-- `list_met` meets its contract. The loop's invariant is `Queue`: what the scopes above the next
-- one meet is listed, and the list grows to the one that is due. Assumes nothing.
use mathlib.Core.Path.{refl}
use lib.ListN.{set, replicate}
use Rattle.was.specs.Cells.{scopes_by, in_cells}
use Rattle.was.proofs.Walking.{queue_begun, queue_next, queue_all}
use Rattle.was.proofs.order.list_met.Goals as goal

pub loop-next-init : goal.loop-next-init
loop-next-init c = queue_begun (scopes_by c.args.edges.now) c.args.start (replicate 64 0) c.requires.scopes refl c.requires.start

pub gather-requires : goal.gather-requires
gather-requires c = record { scopes = c.requires.scopes _; listed = c.loop-next.invariant.held.begins }

pub loop-next-preserved : goal.loop-next-preserved
loop-next-preserved c = queue_next (scopes_by c.args.edges.now) c.args.start (set (replicate 64 0) 0 c.args.start) c.requires.scopes c.loop-next.met.list c.loop-next.met.count c.loop-next.next c.loop-next.invariant c.loop-next-test.true _ _ c.gather.ensures.count c.gather.ensures.memory

pub returns : goal.returns
unfolding in_cells
returns c = let told = queue_all (scopes_by c.args.edges.now) c.args.start (replicate 64 0) c.requires.scopes refl c.loop-next.met.list c.loop-next.met.count c.loop-next.next c.loop-next.invariant c.loop-next-test.false in record { count = told.0; memory = told.1 }
