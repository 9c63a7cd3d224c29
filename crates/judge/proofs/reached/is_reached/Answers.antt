-- `is_reached` meets its contract: the steps that are left decide. Assumes nothing.
use mathlib.Core.Path.{refl, sym, ◌∙◌}
use Rattle.judge.proofs.HopLaws.{along_small, behind_inside}
use Rattle.judge.proofs.WalkLaws.{reaches_end, reaches_no, reaches_on}
use Rattle.judge.proofs.reached.is_reached.Goals as goal

pub returns-then-state-ge-NO_STATE : goal.returns-then-state-ge-NO_STATE
returns-then-state-ge-NO_STATE c = record { answer = sym (sym c.loop-step.invariant.left ∙ reaches_no c.args.block.now c.args.decls.now c.args.goal c.args.sought c.args.mark c.loop-step.n c.args.steps.now c.loop-step.step-index c.loop-step-test.true _ refl _ c.label_number.ensures.answer _ c.state_along-state.ensures.answer c.if-state-ge-NO_STATE.true) }

pub behind-n-requires : goal.behind-n-requires
behind-n-requires c = record { scope = along_small c.args.block.now c.loop-step.n c.label_number.result _ c.state_along-state.result c.state_along-state.ensures.answer c.if-state-ge-NO_STATE.false }

pub loop-step-preserved : goal.loop-step-preserved
loop-step-preserved c = record {
  left = sym (reaches_on c.args.block.now c.args.decls.now c.args.goal c.args.sought c.args.mark c.loop-step.n c.args.steps.now c.loop-step.step-index c.loop-step-test.true _ refl _ c.label_number.ensures.answer _ c.state_along-state.ensures.answer c.if-state-ge-NO_STATE.false _ c.behind-n.result c.behind-n.ensures.answer) ∙ c.loop-step.invariant.left;
  inside = behind_inside c.loop-step.n c.behind-n.result _ _ _ c.behind-n.ensures.answer (along_small c.args.block.now c.loop-step.n c.label_number.result _ c.state_along-state.result c.state_along-state.ensures.answer c.if-state-ge-NO_STATE.false) c.if-state-ge-NO_STATE.false;
}

pub returns : goal.returns
returns c = record { answer = reaches_end c.args.block.now c.args.decls.now c.args.goal c.args.sought c.args.mark c.loop-step.n c.args.steps.now c.loop-step.step-index c.ends_here.result c.ends_here.ensures.answer c.loop-step-test.false ∙ c.loop-step.invariant.left }
