-- `straight` meets its contract: what is led to from the node come to is led to from the start
-- (proofs/Leads). Assumes nothing.
use mathlib.Core.Bool.{false≢true}
use mathlib.Core.Path.{◌≡◌, sym, ◌∙◌}
use native.Mathlib.Omega.{arith}
use mathlib.Core.List.{List}
use Prim.Native.Nat.{ℕ}
use Rattle.block.specs.Block.{edge_cell, hop_of}
use Rattle.search.specs.Steps.{HopAt, Entered, worth_state}
use Rattle.search.specs.declared.Node.{Node}
use Rattle.search.proofs.Leads.{Behind, behind_node, enter_inside, hop_here, hop_leads_lem}
use Rattle.search.proofs.straight.straight.Goals as goal

-- the nearest place's node: its edge is one of the scope's, and it is the node behind that
behind :
    {block table : List ℕ} {n : Node} {labels i x r : ℕ} {m : Node}
    → HopAt block table n labels i → x ≡ edge_cell block i
    → r ≡ worth_state block table n.free n.state labels (hop_of x) → Entered n (hop_of x) r m → Behind block table n labels i m
behind near = behind_node near.worth

pub bounds-block-1899 : goal.bounds-block-1899
bounds-block-1899 c = omega arith

pub returns-then-block-lt-DENSE : goal.returns-then-block-lt-DENSE
returns-then-block-lt-DENSE c = record { leads = λ e. absurd (false≢true e) }

pub loop-m-init : goal.loop-m-init
loop-m-init c = (c.requires.inside, λ e. e)

pub returns-then-edges_end-p : goal.returns-then-edges_end-p
returns-then-edges_end-p c = record { leads = λ e. absurd (false≢true e) }

pub is_goal-requires : goal.is_goal-requires
is_goal-requires c = record { scope = (enter_inside c.args.block.now c.args.goal c.loop-m.m c.loop-m.by c.args.live.now c.nearest-p.result c.entered-m.result (behind (c.nearest-p.ensures.hop (omega (arith, c.edges_end.ensures.answer, c.if-edges_end-p.false))) c.edge_at-x.ensures.answer c.worth-r.ensures.answer c.entered-m.ensures.answer)).scope }

pub returns-then-is_goal : goal.returns-then-is_goal
returns-then-is_goal c = record { leads = λ e. c.loop-m.invariant.1 (hop_here c.args.block.now c.args.goal c.loop-m.m c.loop-m.by c.args.live.now c.nearest-p.result (c.nearest-p.ensures.hop (omega (arith, c.edges_end.ensures.answer, c.if-edges_end-p.false))).leaves c.entered-m.result (behind (c.nearest-p.ensures.hop (omega (arith, c.edges_end.ensures.answer, c.if-edges_end-p.false))) c.edge_at-x.ensures.answer c.worth-r.ensures.answer c.entered-m.ensures.answer) (sym c.is_goal.ensures.answer ∙ c.if-is_goal.true)) }

pub loop-m-smaller : goal.loop-m-smaller
loop-m-smaller c = omega (arith, c.entered-m.ensures.answer.left)

pub loop-m-preserved : goal.loop-m-preserved
loop-m-preserved c = (enter_inside c.args.block.now c.args.goal c.loop-m.m c.loop-m.by c.args.live.now c.nearest-p.result c.entered-m.result (behind (c.nearest-p.ensures.hop (omega (arith, c.edges_end.ensures.answer, c.if-edges_end-p.false))) c.edge_at-x.ensures.answer c.worth-r.ensures.answer c.entered-m.ensures.answer), λ e. c.loop-m.invariant.1 (hop_leads_lem c.args.block.now c.args.goal c.loop-m.m c.loop-m.by c.args.live.now c.nearest-p.result (c.nearest-p.ensures.hop (omega (arith, c.edges_end.ensures.answer, c.if-edges_end-p.false))).leaves c.entered-m.result (behind (c.nearest-p.ensures.hop (omega (arith, c.edges_end.ensures.answer, c.if-edges_end-p.false))) c.edge_at-x.ensures.answer c.worth-r.ensures.answer c.entered-m.ensures.answer) e))

pub returns : goal.returns
returns c = record { leads = λ e. absurd (false≢true e) }
