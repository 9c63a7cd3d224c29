-- `scope_closed` meets its contract: a scope that holds all states that matter is closed, and
-- another is if its edges are. Assumes nothing.
use Prim.Native.Nat.{ℕ}
use mathlib.Core.Path.{subst}
use mathlib.Core.Bool.{false≢true}
use native.Mathlib.Omega.{arith}
use Rattle.block.specs.Block.{hop_of}
use Rattle.block.specs.Sets.{has_scope}
use Rattle.search.specs.Steps.{HopClosed}
use Rattle.search.specs.Tables.{place_flag}
use Rattle.search.specs.Conditions.{way_of}
use Rattle.search.proofs.Closing.{OnClosed, full_closed, on_closed_all, on_closed_none, on_closed_more}
use Rattle.search.proofs.closure.scope_closed.Goals as goal

pub offset_bounds-table-s : goal.offset_bounds-table-s
offset_bounds-table-s c = omega arith

pub bounds-table-s : goal.bounds-table-s
bounds-table-s c = omega arith

pub returns-then-held-full : goal.returns-then-held-full
returns-then-held-full c = record { closed = λ e. full_closed _ _ _ _ _ c.requires.leading _ c.requires.scope c.if-held-full.true }

pub loop-p-init : goal.loop-p-init
loop-p-init c = λ on. on_closed_all _ _ _ _ _ c.requires.scope (subst (λ (x : ℕ). OnClosed c.args.block.now (way_of c.args.block.now c.args.cutting) (has_scope c.args.free) (place_flag c.args.table.now) c.args.s x) c.edges_from-p.ensures.answer on)

pub returns-then-edge_lacks : goal.returns-then-edge_lacks
returns-then-edge_lacks c = record { closed = λ e. absurd (false≢true e) }

pub loop-p-preserved : goal.loop-p-preserved
loop-p-preserved c = λ rest. c.loop-p.invariant (on_closed_more _ _ _ _ _ c.loop-p.p (omega (arith, c.edges_end-end.ensures.answer)) (subst (λ (x : ℕ). HopClosed c.args.block.now (way_of c.args.block.now c.args.cutting) (has_scope c.args.free) (place_flag c.args.table.now) c.args.s (hop_of x)) c.edge_at.ensures.answer (c.edge_lacks.ensures.closed c.if-edge_lacks.false)) rest)

pub returns : goal.returns
returns c = record { closed = λ e. c.loop-p.invariant (on_closed_none _ _ _ _ _ c.loop-p.p (omega (arith, c.edges_end-end.ensures.answer))) }
