-- `is_open` meets its contract: from the rows that are left the answer is the same. Assumes nothing.
use mathlib.Core.Path.{◌∙◌}
use native.Mathlib.Omega.{arith}
use Rattle.accepting.proofs.OpenLaws.{open_end, open_here, open_scope, open_other}
use Rattle.accepting.proofs.opens.is_open.Goals as goal
use Rattle.accepting.proofs.opens.is_open.Goals.{else-row-at-via-then-row-at+else-row-end, else-row-at-via-else-row-at}

pub returns-then-row-end : goal.returns-then-row-end
returns-then-row-end c =
    let s = c.in-Some.ensures.steps
    in record { answer = open_here c.args.at c.args.end _ _ _ s.1.0 (s.1.1 ∙ c.loop-row.invariant.0) c.open_row-row.result c.open_row-row.ensures.answer c.if-row-at.true c.if-row-end.true ∙ c.loop-row.invariant.1 }

pub loop-row-preserved : goal.loop-row-preserved
loop-row-preserved c =
    let s = c.in-Some.ensures.steps
    in (
      s.0 ∙ c.loop-row.invariant.0,
      elim c.else-row-at.branch [
        | else-row-at-via-then-row-at+else-row-end w ↦ open_other c.args.at c.args.end _ _ _ s.1.0 (s.1.1 ∙ c.loop-row.invariant.0) c.open_row-row.result c.open_row-row.ensures.answer w.if-row-at.true w.if-row-end.false ∙ c.loop-row.invariant.1
        | else-row-at-via-else-row-at w ↦ open_scope c.args.at c.args.end _ _ _ s.1.0 (s.1.1 ∙ c.loop-row.invariant.0) c.open_row-row.result c.open_row-row.ensures.answer w.if-row-at.false ∙ c.loop-row.invariant.1
      ],
    )

pub returns : goal.returns
returns c = let s = c.in-None.ensures.steps in record { answer = open_end c.args.at c.args.end _ (omega (arith, s.1.0, c.loop-row.invariant.0)) ∙ c.loop-row.invariant.1 }
