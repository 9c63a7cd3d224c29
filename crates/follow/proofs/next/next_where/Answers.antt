-- `next_where` meets its contract: the hops up to edge i are passed over. Assumes nothing.
use borrow.Author.Tests.{not-true, not-false}
use mathlib.Core.Path.{◌∙◌}
use native.Mathlib.Omega.{arith}
use Rattle.search.proofs.HopLaws.{next_told}
use Rattle.follow.proofs.StepLaws.{skip_none, skip_idle, skip_cut, next_is}
use Rattle.follow.proofs.next.next_where.Goals as goal

pub edges_end-end-requires : goal.edges_end-end-requires
edges_end-end-requires g c = record { scope = c.requires.inside.scope }

pub loop-i-init : goal.loop-i-init
loop-i-init g c = (c.requires.known, skip_none c.args.block.now c.args.ask.now c.args.onward.now c.args.n c.args.p)

pub next_hop-i-requires : goal.next_hop-i-requires
next_hop-i-requires g c = record { table = c.requires.table; inside = c.requires.inside }

pub returns-then-end-i : goal.returns-then-end-i
returns-then-end-i g c = record {
  known = c.loop-i.invariant.0;
  next = next_is c.args.block.now c.args.ask.now c.args.onward.now c.args.n c.args.p c.loop-i.i c.next_hop-i.result
      (skip_idle c.args.block.now c.args.ask.now c.args.onward.now c.args.n c.args.p c.loop-i.i c.next_hop-i.result c.loop-i.invariant.1 (next_told _ _ _ _ _ _ c.next_hop-i.ensures.answer)) (next_told _ _ _ _ _ _ c.next_hop-i.ensures.answer)
      (λ y. absurd (omega (arith, y, c.if-end-i.true, c.edges_end-end.ensures.answer)));
}

pub asks-learnt-requires : goal.asks-learnt-requires
asks-learnt-requires g c = rw c.ask_goal-goal.ensures.answer (c.requires.callable c.loop-i.more c.edge_at-x.result (omega arith) c.loop-i.invariant.0)

pub returns-then-not-learnt : goal.returns-then-not-learnt
returns-then-not-learnt g c = let told = c.requires.told c.loop-i.more c.edge_at-x.result c.asks-learnt.result c.loop-i.invariant.0 (rw c.ask_goal-goal.ensures.answer at c.asks-learnt.ensures) in record {
  known = told.known;
  next = next_is c.args.block.now c.args.ask.now c.args.onward.now c.args.n c.args.p c.loop-i.i c.next_hop-i.result
      (skip_idle c.args.block.now c.args.ask.now c.args.onward.now c.args.n c.args.p c.loop-i.i c.next_hop-i.result c.loop-i.invariant.1 (next_told _ _ _ _ _ _ c.next_hop-i.ensures.answer)) (next_told _ _ _ _ _ _ c.next_hop-i.ensures.answer)
      (λ y. rw c.edge_at-x.ensures.answer at told.cut ∙ not-true _ c.if-not-learnt.true);
}

pub overflow_add-i : goal.overflow_add-i
overflow_add-i g c = omega arith

pub loop-i-smaller : goal.loop-i-smaller
loop-i-smaller g c = omega (arith, (next_told _ _ _ _ _ _ c.next_hop-i.ensures.answer).on, c.edges_end-end.ensures.answer)

pub loop-i-preserved : goal.loop-i-preserved
loop-i-preserved g c = let told = c.requires.told c.loop-i.more c.edge_at-x.result c.asks-learnt.result c.loop-i.invariant.0 (rw c.ask_goal-goal.ensures.answer at c.asks-learnt.ensures) in (
  told.known,
  skip_cut c.args.block.now c.args.ask.now c.args.onward.now c.args.n c.args.p c.loop-i.i c.next_hop-i.result
      (skip_idle c.args.block.now c.args.ask.now c.args.onward.now c.args.n c.args.p c.loop-i.i c.next_hop-i.result c.loop-i.invariant.1 (next_told _ _ _ _ _ _ c.next_hop-i.ensures.answer)) (next_told _ _ _ _ _ _ c.next_hop-i.ensures.answer)
      (omega (arith, c.if-end-i.false, c.edges_end-end.ensures.answer))
      (rw c.edge_at-x.ensures.answer at told.cut ∙ not-false _ c.if-not-learnt.false),
)
