-- `edge_to` meets its contract: the edges passed go elsewhere, so the first from edge p on is the
-- first of all. Assumes nothing.
use mathlib.Core.Path.{◌≡◌, sym, ◌∙◌}
use native.Mathlib.Omega.{arith}
use Rattle.block.specs.Block.{edge_to}
use Rattle.block.proofs.EdgeLaws.{edge_past, edge_here, edge_more}
use Rattle.block.proofs.edges.edge_to.Goals as goal

pub loop-p-init : goal.loop-p-init
unfolding edge_to
loop-p-init c = record { passed = rw c.edges_from-from.ensures.answer; within = omega arith }

pub returns-then-is_edge : goal.returns-then-is_edge
returns-then-is_edge c = record {
  answer = let s = c in
      let l = c.loop-p in
      edge_here s.args.block.now _ s.args.s l.p (omega (arith, c.edges_end-end.ensures.answer)) (rw (c.is_edge.ensures.answer, c.edge_at.ensures.answer) at c.if-is_edge.true) ∙ sym l.invariant.passed;
}

pub loop-p-preserved : goal.loop-p-preserved
loop-p-preserved c = let s = c in
    let l = c.loop-p in
    record {
      passed = l.invariant.passed ∙ edge_more s.args.block.now _ s.args.s l.p (omega (arith, c.edges_end-end.ensures.answer)) (rw (c.is_edge.ensures.answer, c.edge_at.ensures.answer) at c.if-is_edge.false);
      within = omega arith;
    }

pub returns : goal.returns
returns c = record {
  answer = let last : c.max.result ≡ c.loop-p.p = omega (arith, c.max.ensures, c.loop-p.invariant.within) in
      last ∙ edge_past c.args.block.now _ c.args.s c.loop-p.p (omega (arith, c.edges_end-end.ensures.answer)) ∙ sym c.loop-p.invariant.passed;
}
