-- `hops_size` meets its contract: the loop has measured the hops before this one. Assumes nothing.
use native.Mathlib.Omega.{arith}
use Prim.Native.Nat.{◌+◌}
use mathlib.Core.Path.{refl, sym, ap, ◌∙◌}
use Rattle.follow.specs.Steps.{hops_size}
use Rattle.follow.proofs.RowLaws.{size_none, size_step, size_most, all_hops}
use Rattle.follow.proofs.rows.hops_size.Goals as goal

pub loop-hop-init : goal.loop-hop-init
loop-hop-init c = sym (size_none c.as_slice-hops.result.now)

pub loop-hop-preserved : goal.loop-hop-preserved
loop-hop-preserved c = omega (arith, c.loop-hop.invariant, size_step c.as_slice-hops.result.now c.loop-hop.hop-index _ _ c.loop-hop-test.true refl c.hop_size-n.ensures.bytes)

pub overflow_add-n : goal.overflow_add-n
overflow_add-n c = omega (arith, c.loop-hop.invariant, c.as_slice-hops.ensures.few, size_step c.as_slice-hops.result.now c.loop-hop.hop-index _ _ c.loop-hop-test.true refl c.hop_size-n.ensures.bytes, size_most c.as_slice-hops.result.now (c.loop-hop.hop-index + 1))

pub returns : goal.returns
returns c = record { bytes = c.loop-hop.invariant ∙ ap hops_size (all_hops c.as_slice-hops.result.now c.loop-hop.hop-index (omega arith) ∙ c.as_slice-hops.ensures.hops) }
