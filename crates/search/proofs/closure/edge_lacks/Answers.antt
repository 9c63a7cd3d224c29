-- `edge_lacks` meets its contract: no place leads on to an empty set, and else the states that
-- matter are tested. Assumes nothing.
use mathlib.Core.Path.{sym, ◌∙◌}
use mathlib.Core.Bool.{true≢false}
use Rattle.block.specs.Sets.{has_scope}
use Rattle.block.specs.Block.{hop_of}
use Rattle.block.proofs.BlockLaws.{hop_to_lem}
use Rattle.search.proofs.Closing.{empty_closed, hop_closed}
use Rattle.search.proofs.closure.edge_lacks.Goals.{then-set-eq0-via-then-set-eq0, then-set-eq0-via-else-set-eq0+then-not-has}
use Rattle.search.proofs.closure.edge_lacks.Goals as goal

pub returns-then-set-eq0 : goal.returns-then-set-eq0
unfolding hop_of
returns-then-set-eq0 c = elim c.then-set-eq0.branch [
  | then-set-eq0-via-then-set-eq0 w ↦ record { closed = λ e. empty_closed _ _ _ (has_scope c.args.free) _ c.requires.leading _ c.requires.scope (hop_of c.args.x) (rw c.edge_scope-to.ensures.answer at w.if-set-eq0.true) }
  | then-set-eq0-via-else-set-eq0+then-not-has w ↦ record { closed = λ e f. absurd (true≢false (sym f ∙ rw c.edge_scope-to.ensures.answer at (sym w.has.ensures.answer ∙ w.if-not-has.true))) }
]

pub returns : goal.returns
unfolding hop_of
returns c = record { closed = λ e. hop_closed _ _ _ (has_scope c.args.free) _ c.requires.leading _ c.requires.scope (hop_of c.args.x) c.barred.result (hop_to_lem c.args.x) (λ q b. c.barred.ensures.cut q (hop_of c.args.x).step (sym c.edge_label-label.ensures.answer) b) (rw (c.edge_label-label.ensures.answer, c.edge_scope-to.ensures.answer) at (c.leads_into.ensures.none e)) }
