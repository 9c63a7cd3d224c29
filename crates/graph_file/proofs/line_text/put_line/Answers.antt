use Prim.Native.Nat.{◌+◌}
use mathlib.Core.Path.{◌≡◌, refl}
use mathlib.Core.List.{[], ◌∷◌}
use lib.ListN.{drop}
use Rattle.text_field.proofs.WritingLaws.{left_start, left_step, left_end}
use Rattle.graph_rows.specs.Format.{byte}
use Rattle.graph_rows.specs.Table.{line_of, items_at, letters_at}
use Rattle.graph_file.specs.Line.{line_text}
use Rattle.graph_file.proofs.LineLaws.{code_last, code_none}
use Rattle.graph_file.proofs.WriteLaws.{text_more, text_last}
use Rattle.graph_file.proofs.line_text.put_line.Goals as goal
use Rattle.graph_file.proofs.line_text.put_line.Goals.{else-loop-x-test, then-loop-x-test+then-x-eq10}

pub loop-x-init : goal.loop-x-init
unfolding items_at
loop-x-init c = rw c.codes_from-x-items.ensures.answer (left_start _ _)

pub loop-x-preserved : goal.loop-x-preserved
loop-x-preserved c =
    let letters = letters_at c.args.labels (drop 1 c.args.table.now)
    in let codes = c.codes_from-x-items.result.now
    in left_step (line_text letters (line_of (drop (c.loop-x.x-index + 1) codes)) c.args.row.now) c.loop-x.invariant (text_more letters codes c.loop-x.x-index c.args.row.now _ c.loop-x-test.true c.if-x-eq10.false c.of.ensures.answer) c.put_item.ensures.wrote

pub returns : goal.returns
returns c =
    let last : line_of (drop c.loop-x.x-index c.codes_from-x-items.result.now) ≡ byte 10 ∷ [] = elim c.loop-x-test.branch [ else-loop-x-test w ↦ code_none _ _ w.loop-x-test.false | then-loop-x-test+then-x-eq10 w ↦ code_last _ _ w.loop-x-test.true w.if-x-eq10.true ]
    in record { wrote = left_end (left_step [] c.loop-x.invariant (text_last (letters_at c.args.labels (drop 1 c.args.table.now)) _ c.args.row.now last) c.put.ensures.wrote) refl }
