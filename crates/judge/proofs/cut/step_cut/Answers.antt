-- `step_cut` meets its contract: by the step's edge, or by its label alone. Assumes nothing.
use mathlib.Core.Path.{◌∙◌}
use Rattle.block.proofs.EdgeLaws.{edge_told}
use Rattle.search.proofs.CutEnds.{known_none}
use Rattle.judge.proofs.CutLaws.{step_plain, step_edge}
use Rattle.judge.proofs.cut.step_cut.Goals as goal

pub edge_to-p-requires : goal.edge_to-p-requires
edge_to-p-requires c = record { scope = c.requires.ready.inside.scope }

pub edges_end-requires : goal.edges_end-requires
edges_end-requires c = record { scope = c.requires.ready.inside.scope }

pub returns-then-edges_end-p : goal.returns-then-edges_end-p
returns-then-edges_end-p c = record { answer = c.label_cut.ensures.answer ∙ step_plain c.args.block.now c.args.goal c.args.n c.args.label c.args.to _ _ (edge_told _ _ _ _ _ c.requires.ready.inside.scope c.edge_to-p.ensures.answer) c.edges_end.ensures.answer c.if-edges_end-p.true }

pub edge_cut-requires : goal.edge_cut-requires
edge_cut-requires c = record { bounds = c.requires.ready.bounds; table = c.requires.ready.table; inside = c.requires.ready.inside; live = c.requires.ready.closed; known = known_none c.args.block.now c.args.goal c.args.n }

pub returns : goal.returns
returns c = record { answer = step_edge c.args.block.now c.args.goal c.args.n c.args.label c.args.to _ _ (edge_told _ _ _ _ _ c.requires.ready.inside.scope c.edge_to-p.ensures.answer) c.edges_end.ensures.answer c.if-edges_end-p.false _ c.edge_at.ensures.answer _ c.edge_cut.ensures.cut }
