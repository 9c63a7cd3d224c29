-- `state_on` meets its contract. Assumes nothing.
use mathlib.Core.Path.{sym, ◌∙◌}
use Rattle.judge.proofs.HopLaws.{on_past, on_taken, on_no_label, on_free}
use Rattle.judge.proofs.hops.state_on.Goals.{then-to-ge-SCOPES-via-then-to-ge-SCOPES, then-to-ge-SCOPES-via-else-to-ge-SCOPES+then-not-has, then-to-ge-SCOPES-via-else-to-ge-SCOPES+else-not-has+then-label-ge-LABELS}
use Rattle.judge.proofs.hops.state_on.Goals as goal

pub returns-then-to-ge-SCOPES : goal.returns-then-to-ge-SCOPES
returns-then-to-ge-SCOPES c =
    elim c.then-to-ge-SCOPES.branch [
      | then-to-ge-SCOPES-via-then-to-ge-SCOPES w ↦ record { answer = sym (on_past c.args.block.now c.args.n c.args.label c.args.to w.if-to-ge-SCOPES.true) }
      | then-to-ge-SCOPES-via-else-to-ge-SCOPES+then-not-has w ↦ record { answer = sym (on_taken c.args.block.now c.args.n c.args.label c.args.to (sym w.has.ensures.answer ∙ w.if-not-has.true)) }
      | then-to-ge-SCOPES-via-else-to-ge-SCOPES+else-not-has+then-label-ge-LABELS w ↦ record { answer = sym (on_no_label c.args.block.now c.args.n c.args.label c.args.to (sym w.has.ensures.answer ∙ w.if-not-has.false) w.if-label-ge-LABELS.true) }
    ]

pub returns : goal.returns
returns c = record { answer = c.next_state.ensures.answer ∙ sym (on_free c.args.block.now c.args.n c.args.label c.args.to (sym c.has.ensures.answer ∙ c.if-not-has.false)) }
