-- `later_leads` meets its contract: no edge that the loop has passed is later and leads on. Assumes
-- nothing.
use mathlib.Core.Path.{sym, ◌∙◌}
use native.Mathlib.Omega.{arith}
use Rattle.block.proofs.BlockLaws.{block_hops_in}
use Rattle.search.proofs.LaterLaws.{from_none, from_found, from_more}
use Rattle.search.proofs.later.later_leads.Goals as goal

pub loop-p-init : goal.loop-p-init
loop-p-init c = rw (c.edges_from-p.ensures.answer, block_hops_in c.args.block.now c.args.n.scope c.requires.inside.scope)

pub later_edge-requires : goal.later_edge-requires
later_edge-requires c = c.requires

pub returns-then-later_edge : goal.returns-then-later_edge
returns-then-later_edge c = record { answer = sym (c.loop-p.invariant ∙ from_found c.args.block.now c.args.goal c.args.n c.args.x c.loop-p.p (omega (arith, c.edges_end-end.ensures.answer)) (sym c.later_edge.ensures.answer ∙ c.if-later_edge.true)) }

pub loop-p-preserved : goal.loop-p-preserved
loop-p-preserved c = c.loop-p.invariant ∙ from_more c.args.block.now c.args.goal c.args.n c.args.x c.loop-p.p (omega (arith, c.edges_end-end.ensures.answer)) (sym c.later_edge.ensures.answer ∙ c.if-later_edge.false)

pub returns : goal.returns
returns c = record { answer = sym (c.loop-p.invariant ∙ from_none c.args.block.now c.args.goal c.args.n c.args.x c.loop-p.p (omega (arith, c.edges_end-end.ensures.answer))) }
