-- `path_row::form::read_head` meets its contract: a mark, a space and a start. Assumes nothing.
use mathlib.Core.Path.{◌≡◌, sym, ◌∙◌}
use borrow.Author.Tests.{tests, ltb-true, ltb-false}
use lib.ListN.{get_or}
use Rattle.std.proofs.Common.{rules}
use Rattle.path_row.proofs.Steps.{head_none, head_short, head_other, head_bare, head_whole}
use Rattle.path_row.proofs.form.read_head.Goals as goal

pub returns-in_err-mark : goal.returns-in_err-mark
returns-in_err-mark c =
    let e = head_none c.args.s.now _ c.number_up_to.ensures.answer c.in_err-mark.was in record { answer = cc }

pub returns-in_err-get : goal.returns-in_err-get
returns-in_err-get c =
    let past = ltb-false _ _ (sym c.in_err-get.ensures.lookup.0) in
    let e = head_short c.args.s.now _ c.number_up_to.ensures.answer c.in_ok-mark.mark c.in_ok-mark.next c.in_ok-mark.was past in record { answer = cc }

pub returns-then-branch-ne32 : goal.returns-then-branch-ne32
returns-then-branch-ne32 c =
    let near = ltb-true _ _ (sym c.in_ok-get.ensures.lookup.0) in
    let byte : get_or c.args.s.now c.in_ok-mark.next 0 ≡ c.in_ok-get.field-0.now = search (rules, tests) in
    record { answer = head_other c.args.s.now _ c.number_up_to.ensures.answer c.in_ok-mark.mark c.in_ok-mark.next c.in_ok-mark.was near (λ k. c.if-branch-ne32.true (sym byte ∙ k)) }

pub returns-in_err-start : goal.returns-in_err-start
returns-in_err-start c =
    let near = ltb-true _ _ (sym c.in_ok-get.ensures.lookup.0) in
    let byte : get_or c.args.s.now c.in_ok-mark.next 0 ≡ 32 = search (rules, tests) in
    let e = head_bare c.args.s.now _ c.number_up_to.ensures.answer c.in_ok-mark.mark c.in_ok-mark.next c.in_ok-mark.was near byte _ c.number_up_to-2.ensures.answer c.in_err-start.was in record { answer = cc }

pub returns : goal.returns
returns c =
    let near = ltb-true _ _ (sym c.in_ok-get.ensures.lookup.0) in
    let byte : get_or c.args.s.now c.in_ok-mark.next 0 ≡ 32 = search (rules, tests) in
    record { answer = head_whole c.args.s.now _ c.number_up_to.ensures.answer c.in_ok-mark.mark c.in_ok-mark.next c.in_ok-mark.was near byte _ c.number_up_to-2.ensures.answer c.in_ok-start.start c.in_ok-start.at c.in_ok-start.was }
