-- `first_awaited` meets its contract. The loop's invariant: from the rows that are left the answer
-- is the same. Assumes nothing.
use mathlib.Core.Path.{sym, ◌∙◌}
use native.Mathlib.Omega.{arith}
use Rattle.resolution.proofs.First.{first_end, first_hit, first_miss}
use Rattle.resolution.proofs.awaits.first_awaited.Goals as goal

pub returns-then-pair_followed : goal.returns-then-pair_followed
returns-then-pair_followed c =
    let s = c.in-Some.ensures.steps
    in record { answer = first_hit c.args.block.now c.args.table.now c.args.ask.now _ _ _ s.1.0 (s.1.1 ∙ c.loop-row.invariant.0) c.open_row-pair.result c.open_row-pair.ensures.answer (sym c.pair_followed.ensures.answer ∙ c.if-pair_followed.true) ∙ c.loop-row.invariant.1 }

pub loop-row-preserved : goal.loop-row-preserved
loop-row-preserved c =
    let s = c.in-Some.ensures.steps
    in (s.0 ∙ c.loop-row.invariant.0, first_miss c.args.block.now c.args.table.now c.args.ask.now _ _ _ s.1.0 (s.1.1 ∙ c.loop-row.invariant.0) c.open_row-pair.result c.open_row-pair.ensures.answer (sym c.pair_followed.ensures.answer ∙ c.if-pair_followed.false) ∙ c.loop-row.invariant.1)

pub returns : goal.returns
returns c = let s = c.in-None.ensures.steps in record { answer = first_end c.args.block.now c.args.table.now c.args.ask.now _ (omega (arith, s.1.0, c.loop-row.invariant.0)) ∙ c.loop-row.invariant.1 }
