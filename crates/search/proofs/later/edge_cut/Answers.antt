-- `edge_cut` meets its contract: a step is cut as its label is, or by a later one
-- (proofs/LaterLaws). Assumes nothing.
use mathlib.Core.Path.{sym, ◌∙◌}
use native.Mathlib.Omega.{arith}
use Rattle.search.proofs.LaterLaws.{step_by_label, step_later, step_highest}
use Rattle.search.proofs.later.edge_cut.Goals as goal

pub returns-then-told : goal.returns-then-told
returns-then-told c = let told = rw c.edge_label.ensures.answer at c.learn-told.ensures in record { known = told.known; cut = c.if-told.true ∙ sym (step_by_label c.args.block.now c.args.goal c.args.n c.args.x (sym told.cut ∙ c.if-told.true)) }

pub returns-then-most_turn-edge_turn : goal.returns-then-most_turn-edge_turn
returns-then-most_turn-edge_turn c = let told = rw c.edge_label.ensures.answer at c.learn-told.ensures in record { known = told.known; cut = c.if-told.false ∙ sym (step_highest c.args.block.now c.args.goal c.args.n c.args.x c.requires.bounds (omega (arith, c.most_turn.ensures.answer, c.edge_turn.ensures.answer, c.if-most_turn-edge_turn.true)) (sym told.cut ∙ c.if-told.false)) }

pub later_leads-cut-requires : goal.later_leads-cut-requires
later_leads-cut-requires c = record { bounds = c.requires.bounds; table = c.requires.table; inside = c.requires.inside; live = c.requires.live }

pub returns : goal.returns
returns c = let told = rw c.edge_label.ensures.answer at c.learn-told.ensures in record { known = told.known; cut = c.later_leads-cut.ensures.answer ∙ sym (step_later c.args.block.now c.args.goal c.args.n c.args.x (sym told.cut ∙ c.if-told.false)) }
