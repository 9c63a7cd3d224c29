-- `candidates` meets its contract. Assumes nothing.
use mathlib.Core.Path.{sym, ◌∙◌}
use mathlib.Core.Logic.{inl, inr}
use native.Mathlib.Omega.{arith}
use Rattle.resolution.proofs.Unfollowed.{left_open, left_cut}
use Rattle.resolution.proofs.awaits.candidates.Goals as goal
use Rattle.resolution.proofs.awaits.candidates.Goals.{then-not-has-via-then-not-has, then-not-has-via-else-not-has+then-not-pair}

pub returns-then-not-has : goal.returns-then-not-has
returns-then-not-has c = record {
  answer = left_open c.args.block.now c.args.goal c.args.away.now c.args.at c.args.end (omega arith) _ _ c.usable_set.ensures.answer c.less-states.ensures.answer
      (elim c.then-not-has.branch [
        | then-not-has-via-then-not-has w ↦ inl (sym c.has.ensures.answer ∙ w.if-not-has.true)
        | then-not-has-via-else-not-has+then-not-pair w ↦ inr (sym w.pair.ensures.answer ∙ w.if-not-pair.true)
      ]);
}

pub returns : goal.returns
returns c = record { answer = left_cut c.args.block.now c.args.goal c.args.away.now c.args.at c.args.end (omega arith) _ _ c.usable_set.ensures.answer c.less-states.ensures.answer (sym c.has.ensures.answer ∙ c.if-not-has.false) (sym c.pair.ensures.answer ∙ c.if-not-pair.false) _ _ c.accept_set.ensures.answer c.less.ensures.answer }
