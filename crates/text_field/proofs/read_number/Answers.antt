use mathlib.Core.Path.{◌∙◌}
use borrow.Author.Rules.{rules}
use borrow.Author.Tests.{tests}
use Rattle.text_field.proofs.Steps.{no_number, no_digit, some_number}
use Rattle.text_field.proofs.read_number.Goals as goal

pub returns-in_err-first : goal.returns-in_err-first
returns-in_err-first c = record { answer = c.from_residual.ensures ∙ no_number c.args.s.now c.args.at (search (rules, tests)) }

pub returns-then-not-is_digit : goal.returns-then-not-is_digit
returns-then-not-is_digit c = record { answer = no_digit c.args.s.now c.args.at (search (rules, tests)) (search (rules, tests)) }

pub returns : goal.returns
returns c = record { answer = let a = c.args in c.digits_from.ensures.answer ∙ some_number a.s.now a.at (search (rules, tests)) _ (search rules) (search (rules, tests)) }
