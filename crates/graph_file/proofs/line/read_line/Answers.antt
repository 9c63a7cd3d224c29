use mathlib.Core.Path.{◌≡◌, refl, ap, ◌∙◌}
use mathlib.Core.List.{[], ◌∷◌}
use lib.ListN.{drop}
use Rattle.graph_rows.specs.Format.{byte}
use Rattle.graph_rows.specs.Table.{line_of, items_at, letters_at}
use Rattle.graph_file.specs.Reader.{line_outcome}
use Rattle.graph_file.proofs.LineLaws.{line_refused, line_on, code_last, code_none, line_open, line_done}
use Rattle.graph_file.proofs.line.read_line.Goals as goal
use Rattle.graph_file.proofs.line.read_line.Goals.{else-loop-x-test, then-loop-x-test+then-x-eq10}

pub loop-x-init : goal.loop-x-init
unfolding items_at
loop-x-init c = (rw c.codes_from-x-items.ensures.answer, refl)

pub returns-in_err-place : goal.returns-in_err-place
unfolding line_outcome
returns-in_err-place c = record { answer = ap (λ x. line_outcome x c.args.text.now) c.from_residual.ensures ∙ line_refused (letters_at c.args.labels (drop 1 c.args.table.now)) c.codes_from-x-items.result.now c.loop-x.x-index c.loop-x-test.true c.loop-x.row _ c.args.text.now _ c.of.ensures.answer c.if-x-eq10.false c.line_item.new.row c.in_err-place.ensures.answer ∙ c.loop-x.invariant.0 }

pub loop-x-preserved : goal.loop-x-preserved
loop-x-preserved c = (line_on (letters_at c.args.labels (drop 1 c.args.table.now)) c.codes_from-x-items.result.now c.loop-x.x-index c.loop-x-test.true c.loop-x.row _ c.args.text.now _ c.of.ensures.answer c.if-x-eq10.false c.line_item.new.row c.in_ok-place.place c.in_ok-place.ensures.answer ∙ c.loop-x.invariant.0, c.line_item.auto.row ∙ c.loop-x.invariant.1)

pub returns-in_err-next : goal.returns-in_err-next
returns-in_err-next c =
    let last : line_of (drop c.loop-x.x-index c.codes_from-x-items.result.now) ≡ byte 10 ∷ [] = elim c.loop-x-test.branch [ else-loop-x-test w ↦ code_none _ _ w.loop-x-test.false | then-loop-x-test+then-x-eq10 w ↦ code_last _ _ w.loop-x-test.true w.if-x-eq10.true ]
    in record { answer = ap (λ x. line_outcome x c.args.text.now) c.from_residual-in_err-next.ensures ∙ line_open (letters_at c.args.labels (drop 1 c.args.table.now)) _ last c.loop-x.row _ c.args.text.now _ c.take_bare.ensures.answer c.in_err-next.was ∙ c.loop-x.invariant.0 }

pub returns : goal.returns
returns c =
    let last : line_of (drop c.loop-x.x-index c.codes_from-x-items.result.now) ≡ byte 10 ∷ [] = elim c.loop-x-test.branch [ else-loop-x-test w ↦ code_none _ _ w.loop-x-test.false | then-loop-x-test+then-x-eq10 w ↦ code_last _ _ w.loop-x-test.true w.if-x-eq10.true ]
    in record { answer = line_done (letters_at c.args.labels (drop 1 c.args.table.now)) _ last c.loop-x.row _ c.args.text.now _ c.take_bare.ensures.answer _ c.in_ok-next.was ∙ c.loop-x.invariant.0 }
