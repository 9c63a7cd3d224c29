-- `next_line` meets its contract: the search for the first LF tells the line. Assumes nothing.
use mathlib.Core.Path.{◌≡◌, sym, ◌∙◌}
use lib.Dec.{eqb}
use lib.ListN.{drop}
use borrow.Author.Rules.{rules}
use borrow.Author.Tests.{tests}
use Rattle.std.specs.List.{position_from}
use Rattle.std.proofs.lemmas.Iterator.{YieldsList-from_slice}
use Rattle.std.proofs.lemmas.Iterator.Adapters.{position_from-zero}
use Rattle.std.proofs.lemmas.Iterator.Search.{position_from_yields_List}
use Rattle.std.proofs.lemmas.Slice.{between_to_end}
use Rattle.text_field.proofs.LineLaws.{line_read}
use Rattle.text_field.proofs.Steps.{line_end_lem}
use Rattle.text_field.proofs.lines.next_line.Goals as goal

pub returns-in_err-get : goal.returns-in_err-get
returns-in_err-get c = record { answer = c.from_residual.ensures ∙ line_end_lem c.args.s.now c.args.at (search (rules, tests)) }

pub returns-in_err-end : goal.returns-in_err-end
returns-in_err-end c =
    let text = drop c.args.at c.args.s.now
    in let r : c.position.result ≡ position_from (λ x. eqb x 10) 0 text = position_from_yields_List (λ x. eqb x 10) _ _ c.position.result c.position.ensures.ran (YieldsList-from_slice text (c.iter.ensures.rest ∙ search (rules, between_to_end))) (λ x b q k. search (rules, tests)) ∙ position_from-zero (λ x. eqb x 10) text
    in record { answer = c.from_residual-in_err-end.ensures ∙ line_read c.args.at text _ (sym c.in_err-end.was ∙ r) }

pub returns : goal.returns
returns c =
    let text = drop c.args.at c.args.s.now
    in let r : c.position.result ≡ position_from (λ x. eqb x 10) 0 text = position_from_yields_List (λ x. eqb x 10) _ _ c.position.result c.position.ensures.ran (YieldsList-from_slice text (c.iter.ensures.rest ∙ search (rules, between_to_end))) (λ x b q k. search (rules, tests)) ∙ position_from-zero (λ x. eqb x 10) text
    in record { answer = line_read c.args.at text _ (sym c.in_ok-end.was ∙ r) }
