-- `has_second` meets its contract. The loop's invariant: from the rows that are left, and from
-- whether one was met, the answer is the same. Assumes nothing.
use mathlib.Core.Path.{sym, ◌∙◌}
use native.Mathlib.Omega.{arith}
use borrow.Author.Rules.{rules}
use Rattle.graph_table.specs.Values.{packed}
use Rattle.resolution.proofs.Seconds.{second_after, second_none, second_pass, second_met, second_first}
use Rattle.resolution.proofs.found.has_second.Goals as goal

pub loop-row-init : goal.loop-row-init
unfolding second_after
loop-row-init c = search rules

pub loop-row-preserved-then-not-declares : goal.loop-row-preserved-then-not-declares
loop-row-preserved-then-not-declares c =
    let s = c.in-Some.ensures.steps
    in (s.0 ∙ c.loop-row.invariant.0, second_pass _ c.args.s (packed c.args.name) _ _ s.1.0 (s.1.1 ∙ c.loop-row.invariant.0) _ c.declaration_row.ensures.answer c.loop-row.one (sym c.declares.ensures.answer ∙ c.if-not-declares.true) ∙ c.loop-row.invariant.1)

pub returns-then-one : goal.returns-then-one
returns-then-one c =
    let s = c.in-Some.ensures.steps
    in record { answer = second_met _ c.args.s (packed c.args.name) _ _ s.1.0 (s.1.1 ∙ c.loop-row.invariant.0) _ c.declaration_row.ensures.answer c.loop-row.one c.if-one.true (sym c.declares.ensures.answer ∙ c.if-not-declares.false) ∙ c.loop-row.invariant.1 }

pub loop-row-preserved : goal.loop-row-preserved
loop-row-preserved c =
    let s = c.in-Some.ensures.steps
    in (s.0 ∙ c.loop-row.invariant.0, second_first _ c.args.s (packed c.args.name) _ _ s.1.0 (s.1.1 ∙ c.loop-row.invariant.0) _ c.declaration_row.ensures.answer c.loop-row.one c.if-one.false (sym c.declares.ensures.answer ∙ c.if-not-declares.false) ∙ c.loop-row.invariant.1)

pub returns : goal.returns
returns c = let s = c.in-None.ensures.steps in record { answer = second_none _ c.args.s (packed c.args.name) c.loop-row.one (omega (arith, s.1.0, c.loop-row.invariant.0)) ∙ c.loop-row.invariant.1 }
