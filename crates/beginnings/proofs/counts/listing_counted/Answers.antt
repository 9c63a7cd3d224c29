-- `listing_counted` meets its contract: the listing's, and the count where it was written. Assumes
-- nothing.
use mathlib.Core.Path.{sym, ◌∙◌}
use borrow.Author.Rules.{rules}
use Rattle.text_field.proofs.AnswerLaws.{answer_ok, answer_err}
use Rattle.beginnings.proofs.Calls.{not_listed, not_counted, is_counted}
use Rattle.beginnings.proofs.counts.listing_counted.Goals as goal

pub returns-in_err-size : goal.returns-in_err-size
returns-in_err-size c =
    let e = sym (answer_err _ _ c.in_err-size.was) ∙ c.listing.ensures.answer
    in record { answer = answer_err _ c.in_err-size.field-0.0 (search rules) ∙ e; memory = c.listing.ensures.memory; followed = not_listed _ _ _ _ e }

pub returns-in-Ok : goal.returns-in-Ok
returns-in-Ok c =
    let e = sym (answer_ok _ _ c.in_ok-size.was) ∙ c.listing.ensures.answer
    in let n = sym (answer_ok _ _ c.in-Ok.is) ∙ c.count.ensures.answer
    in record { answer = answer_ok _ _ (search rules) ∙ e; memory = c.listing.ensures.memory; followed = rw (← e) (is_counted _ _ _ _ n) }

pub returns-in_default : goal.returns-in_default
returns-in_default c =
    let e = sym (answer_ok _ _ c.in_ok-size.was) ∙ c.listing.ensures.answer
    in record { answer = answer_ok _ _ (search rules) ∙ e; memory = c.listing.ensures.memory; followed = rw (← e) (not_counted _ _ _ _ (sym (answer_err _ _ c.in_default.is) ∙ c.count.ensures.answer)) }
