-- `number_line` meets its contract. Assumes nothing.
use mathlib.Core.Path.{◌≡◌, sym, ◌∙◌}
use borrow.Author.Tests.{tests, ltb-true, ltb-false}
use lib.ListN.{get_or}
use Rattle.std.proofs.Common.{rules}
use Rattle.was.proofs.ReadingLaws.{line_none, line_ends_lem, line_other, line_there}
use Rattle.was.proofs.text.number_line.Goals as goal

pub returns-in_err-v : goal.returns-in_err-v
returns-in_err-v c = record { answer = c.from_residual.ensures ∙ line_none c.args.text.now c.args.at (sym c.in_err-v.was ∙ c.read_number.ensures.answer) }

pub returns-in_err-get : goal.returns-in_err-get
returns-in_err-get c = record { answer = c.from_residual-in_err-get.ensures ∙ line_ends_lem c.args.text.now c.args.at _ _ (sym c.in_ok-v.was ∙ c.read_number.ensures.answer) (ltb-false _ _ (sym c.in_err-get.ensures.lookup.0)) }

pub returns-then-branch-ne10 : goal.returns-then-branch-ne10
returns-then-branch-ne10 c =
    let byte : get_or c.args.text.now c.in_ok-v.next 0 ≡ c.in_ok-get.field-0.now = search (rules, tests) in
    record { answer = line_other c.args.text.now c.args.at _ _ (sym c.in_ok-v.was ∙ c.read_number.ensures.answer) (ltb-true _ _ (sym c.in_ok-get.ensures.lookup.0)) (λ k. c.if-branch-ne10.true (sym byte ∙ k)) }

pub returns : goal.returns
returns c =
    let byte : get_or c.args.text.now c.in_ok-v.next 0 ≡ c.in_ok-get.field-0.now = search (rules, tests) in
    record { answer = line_there c.args.text.now c.args.at _ _ (sym c.in_ok-v.was ∙ c.read_number.ensures.answer) (ltb-true _ _ (sym c.in_ok-get.ensures.lookup.0)) (byte ∙ c.if-branch-ne10.false) }
