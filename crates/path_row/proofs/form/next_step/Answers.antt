-- `path_row::form::next_step` meets its contract: a letter, and a scope after it. Assumes nothing.
use mathlib.Core.Path.{◌≡◌, ap, sym, ◌∙◌}
use native.Mathlib.Omega.{arith}
use borrow.Author.Tests.{tests, ltb-true, ltb-false}
use lib.ListN.{get_or}
use Rattle.std.proofs.Common.{rules}
use Rattle.text_field.specs.Bytes.{is_capital}
use Rattle.path_row.specs.Form.{step_meaning}
use Rattle.path_row.proofs.Steps.{step_end, step_other, step_bare, step_taken, scope_small}
use Rattle.path_row.proofs.form.next_step.Goals as goal

pub returns-in_err-label : goal.returns-in_err-label
returns-in_err-label c =
    let e = step_end c.args.s.now c.args.at (ltb-false _ _ (sym c.in_err-label.ensures.lookup.0)) in
    record { answer = ap step_meaning (c.from_residual.ensures ∙ e) }

pub returns-then-not-is_capital : goal.returns-then-not-is_capital
returns-then-not-is_capital c =
    let near = ltb-true _ _ (sym c.in_ok-label.ensures.lookup.0) in
    let byte : c.in_ok-label.field-0.now ≡ get_or c.args.s.now c.args.at 0 = search (rules, tests) in
    record { answer = ap step_meaning (step_other c.args.s.now c.args.at c.is_capital.result near (c.is_capital.ensures.answer ∙ ap is_capital byte) c.if-not-is_capital.true) }

pub returns-in_err-scope : goal.returns-in_err-scope
returns-in_err-scope c =
    let near = ltb-true _ _ (sym c.in_ok-label.ensures.lookup.0) in
    let byte : c.in_ok-label.field-0.now ≡ get_or c.args.s.now c.args.at 0 = search (rules, tests) in
    let e = step_bare c.args.s.now c.args.at c.is_capital.result c.number_up_to.result near (c.is_capital.ensures.answer ∙ ap is_capital byte) c.if-not-is_capital.false c.number_up_to.ensures.answer c.in_err-scope.was in
    record { answer = ap step_meaning (c.from_residual-in_err-scope.ensures ∙ e) }

pub overflow_cast-step : goal.overflow_cast-step
overflow_cast-step c =
    let near = ltb-true _ _ (sym c.in_ok-label.ensures.lookup.0) in
    let byte : c.in_ok-label.field-0.now ≡ get_or c.args.s.now c.args.at 0 = search (rules, tests) in
    omega (arith, scope_small c.args.s.now c.args.at c.is_capital.result c.number_up_to.result near (c.is_capital.ensures.answer ∙ ap is_capital byte) c.if-not-is_capital.false c.number_up_to.ensures.answer c.in_ok-scope.scope c.in_ok-scope.next c.in_ok-scope.was)

pub returns : goal.returns
returns c =
    let near = ltb-true _ _ (sym c.in_ok-label.ensures.lookup.0) in
    let byte : c.in_ok-label.field-0.now ≡ get_or c.args.s.now c.args.at 0 = search (rules, tests) in
    record { answer = rw byte (ap step_meaning (step_taken c.args.s.now c.args.at c.is_capital.result c.number_up_to.result near (c.is_capital.ensures.answer ∙ ap is_capital byte) c.if-not-is_capital.false c.number_up_to.ensures.answer c.in_ok-scope.scope c.in_ok-scope.next c.in_ok-scope.was)) }
