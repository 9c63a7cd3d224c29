-- `last_cut` meets its contract: what is kept and what is left of the steps make the last place, and
-- the table stays closed. Assumes nothing.
use mathlib.Core.Path.{◌≡◌, refl, ◌∙◌}
use native.Mathlib.Omega.{arith}
use lib.ListN.{length}
use Rattle.judge.specs.LastCut.{caught_at}
use Rattle.judge.proofs.HopLaws.{on_small, behind_ready}
use Rattle.judge.proofs.CutLaws.{nothing_yet, lasts_end, lasts_no, lasts_last, lasts_on}
use Rattle.judge.proofs.cut.last_cut.Goals.{then-state-ge-NO_STATE-via-then-state-ge-NO_STATE, then-state-ge-NO_STATE-via-else-state-ge-NO_STATE+then-n-eq0}
use Rattle.judge.proofs.cut.last_cut.Goals as goal

pub loop-place-init : goal.loop-place-init
loop-place-init c = record { left = nothing_yet _; ready = c.requires.ready }

pub step_cut-requires : goal.step_cut-requires
step_cut-requires c = record { ready = c.loop-place.invariant.ready }

pub state_on-state-requires : goal.state_on-state-requires
state_on-state-requires c = record { inside = c.loop-place.invariant.ready.inside }

pub returns-then-state-ge-NO_STATE : goal.returns-then-state-ge-NO_STATE
returns-then-state-ge-NO_STATE c =
    elim c.then-state-ge-NO_STATE.branch [
      | then-state-ge-NO_STATE-via-then-state-ge-NO_STATE w ↦ record { answer = c.noted-last.ensures.answer ∙ lasts_no c.args.block.now c.args.goal c.loop-place.n c.args.steps.now c.loop-place.place (caught_at c.loop-place.last) c.loop-place-test.true _ refl _ c.label_number-label.ensures.answer _ c.step_cut.ensures.answer _ c.state_on-state.ensures.answer w.if-state-ge-NO_STATE.true ∙ c.loop-place.invariant.left }
      | then-state-ge-NO_STATE-via-else-state-ge-NO_STATE+then-n-eq0 w ↦ record { answer = c.noted-last.ensures.answer ∙ lasts_last c.args.block.now c.args.goal c.loop-place.n c.args.steps.now c.loop-place.place (caught_at c.loop-place.last) c.loop-place-test.true _ refl _ c.label_number-label.ensures.answer _ c.step_cut.ensures.answer _ c.state_on-state.ensures.answer w.if-state-ge-NO_STATE.false w.if-n-eq0.true ∙ c.loop-place.invariant.left }
    ]

pub behind-n-requires : goal.behind-n-requires
behind-n-requires c = record { scope = on_small c.args.block.now c.loop-place.n c.label_number-label.result _ c.state_on-state.result c.state_on-state.ensures.answer c.if-state-ge-NO_STATE.false }

pub loop-place-preserved : goal.loop-place-preserved
loop-place-preserved c = record {
  left = lasts_on c.args.block.now c.args.goal c.loop-place.n c.args.steps.now c.loop-place.place (caught_at c.loop-place.last) c.loop-place-test.true _ refl _ c.label_number-label.ensures.answer _ c.step_cut.ensures.answer _ c.state_on-state.ensures.answer c.if-state-ge-NO_STATE.false c.if-n-eq0.false c.behind-n.result c.behind-n.ensures.answer _ c.noted-last.ensures.answer ∙ c.loop-place.invariant.left;
  ready = behind_ready c.loop-place.n c.behind-n.result _ _ _ c.behind-n.ensures.answer c.args.block.now c.args.goal c.args.live.now c.loop-place.invariant.ready (on_small c.args.block.now c.loop-place.n c.label_number-label.result _ c.state_on-state.result c.state_on-state.ensures.answer c.if-state-ge-NO_STATE.false) c.if-state-ge-NO_STATE.false;
}

pub end_cut-requires : goal.end_cut-requires
end_cut-requires c = record { ready = c.loop-place.invariant.ready }

pub returns : goal.returns
returns c =
    let all : c.loop-place.place ≡ length c.args.steps.now = omega arith in
    record { answer = c.noted.ensures.answer ∙ rw (← all) (lasts_end c.args.block.now c.args.goal c.loop-place.n c.args.steps.now c.loop-place.place (caught_at c.loop-place.last) c.end_cut.result c.end_cut.ensures.answer c.loop-place-test.false ∙ c.loop-place.invariant.left) }
