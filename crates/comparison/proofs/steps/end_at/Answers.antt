-- `end_at` meets its contract. Assumes nothing.
use mathlib.Core.Path.{◌≡◌, sym}
use borrow.Author.Tests.{tests, ltb-true, ltb-false}
use lib.ListN.{get_or}
use Rattle.std.proofs.Common.{rules}
use Rattle.path_row.specs.Form.{no_step}
use Rattle.comparison.proofs.StepLaws.{end_stop, end_label}
use Rattle.comparison.proofs.steps.end_at.Goals as goal

pub returns-in-None : goal.returns-in-None
returns-in-None c = record { answer = end_stop c.args.block.now c.args.scope c.args.steps.now c.args.i (ltb-false _ _ (sym c.in-None.ensures.lookup.0)) }

pub returns-in-Some : goal.returns-in-Some
returns-in-Some c =
    let here : c.in-Some.step.now ≡ get_or c.args.steps.now c.args.i no_step = search (rules, tests) in
    record { answer = end_label c.args.block.now c.args.scope c.args.steps.now c.args.i (ltb-true _ _ (sym c.in-Some.ensures.lookup.0)) c.in-Some.step.now here c.label_number-label.result c.step_turn.result c.label_number-label.ensures.answer c.step_turn.ensures.answer }
