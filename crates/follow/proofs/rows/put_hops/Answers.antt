-- `put_hops` meets its contract: the loop has written the hops before this one. Assumes nothing.
use native.Mathlib.Omega.{arith}
use mathlib.Core.Path.{refl, ◌∙◌}
use Rattle.text_field.proofs.WritingLaws.{wrote_none, ◌then◌}
use Rattle.follow.proofs.RowLaws.{hops_none, hops_step, all_hops}
use Rattle.follow.proofs.rows.put_hops.Goals as goal

pub loop-x-init : goal.loop-x-init
loop-x-init c = rw (hops_none _ c.as_slice-hops.result.now) (wrote_none _)

pub loop-x-preserved : goal.loop-x-preserved
loop-x-preserved c = rw (hops_step _ c.as_slice-hops.result.now c.loop-x.x-index _ c.loop-x-test.true refl) (c.loop-x.invariant then c.put_hop.ensures.wrote)

pub returns : goal.returns
returns c = record { wrote = rw (all_hops c.as_slice-hops.result.now c.loop-x.x-index (omega arith) ∙ c.as_slice-hops.ensures.hops) at c.loop-x.invariant }
