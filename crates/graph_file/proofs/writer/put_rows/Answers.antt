use Prim.Native.Nat.{◌+◌}
use mathlib.Core.Path.{◌≡◌, refl, sym, ap, ◌∙◌}
use native.Mathlib.Omega.{arith}
use lib.ListN.{drop}
use lib.Seq.{get_or-drop}
use Rattle.text_field.specs.Buffer.{puts}
use Rattle.text_field.specs.Writing.{buf}
use Rattle.graph_rows.specs.declared.rows.Counts.{Counts}
use Rattle.graph_rows.specs.Admission.{value, row_of}
use Rattle.graph_rows.specs.Table.{items_at, row_place, letters_at}
use Rattle.graph_rows.specs.Counting.{counts_after}
use Rattle.graph_file.specs.Line.{line_text}
use Rattle.graph_file.specs.Writer.{pour}
use Rattle.graph_rows.proofs.ColumnLaws.{layout_line}
use Rattle.graph_rows.proofs.CountLaws.{placed_after}
use Rattle.graph_rows.proofs.RowLaws.{row_part}
use Rattle.graph_file.proofs.WriteStages.{rows_start, rows_stop, row_whole, row_room, rows_pass, rows_again}
use Rattle.graph_file.proofs.writer.put_rows.Goals as goal

pub loop-s-init : goal.loop-s-init
loop-s-init c =
    let start = rows_start c.args.s.form c.args.s.section _ c.args.above.counts c.requires.room.2
    in (refl, c.requires.room.1, omega (arith, c.requires.room.2), omega (arith, c.requires.room.2), (c.requires.passes.0, start ∙ c.requires.passes.1), ap (pour (buf c.args.to.now)) start)

pub overflow_add-first : goal.overflow_add-first
overflow_add-first c = omega (arith, c.requires.room.0, c.loop-s.invariant.2, c.loop-s.invariant.3)

pub overflow_add-end : goal.overflow_add-end
overflow_add-end c = omega (arith, c.requires.room.0, c.loop-s.invariant.2, c.loop-s.invariant.3)

pub slice_bounds-put_line-start : goal.slice_bounds-put_line-start
slice_bounds-put_line-start c = let whole = row_whole c.args.s.form c.args.s.section c.loop-s.r.cells c.args.table.now c.loop-s.r.counts c.loop-s.invariant.2 (sym c.row_comes.ensures.answer ∙ c.loop-s-test.true) c.loop-s.invariant.4 in omega (arith, whole)

pub slice_bounds-put_line-end : goal.slice_bounds-put_line-end
slice_bounds-put_line-end c = let whole = row_whole c.args.s.form c.args.s.section c.loop-s.r.cells c.args.table.now c.loop-s.r.counts c.loop-s.invariant.2 (sym c.row_comes.ensures.answer ∙ c.loop-s-test.true) c.loop-s.invariant.4 in omega (arith, whole)

pub counts_after-requires : goal.counts_after-requires
counts_after-requires c = record { few = (omega (arith, c.requires.room.0, c.loop-s.invariant.1.within, c.loop-s.invariant.2, c.loop-s.invariant.3), omega (arith, c.requires.room.0, c.loop-s.invariant.1.within, c.loop-s.invariant.2, c.loop-s.invariant.3), omega (arith, c.requires.room.0, c.loop-s.invariant.2, c.loop-s.invariant.3)) }

pub loop-s-smaller : goal.loop-s-smaller
unfolding counts_after
loop-s-smaller c =
    let f : c.counts_after.result.rows ≡ c.loop-s.r.counts.rows + 1 = ap (λ (x : Counts). x.rows) c.counts_after.ensures.answer
    in omega (arith, f, row_room c.args.s.form c.args.s.section c.loop-s.r.cells c.args.table.now c.loop-s.r.counts c.loop-s.invariant.2 (sym c.row_comes.ensures.answer ∙ c.loop-s-test.true) c.loop-s.invariant.4, c.loop-s.invariant.2)

pub loop-s-preserved : goal.loop-s-preserved
unfolding counts_after row_of
loop-s-preserved c =
    let whole = row_whole c.args.s.form c.args.s.section c.loop-s.r.cells c.args.table.now c.loop-s.r.counts c.loop-s.invariant.2 (sym c.row_comes.ensures.answer ∙ c.loop-s-test.true) c.loop-s.invariant.4
    in let room = row_room c.args.s.form c.args.s.section c.loop-s.r.cells c.args.table.now c.loop-s.r.counts c.loop-s.invariant.2 (sym c.row_comes.ensures.answer ∙ c.loop-s-test.true) c.loop-s.invariant.4
    in let first : c.get_or.result ≡ value (row_of (drop c.loop-s.r.cells c.args.table.now)) 0 = c.get_or.ensures.answer ∙ sym (get_or-drop c.loop-s.r.cells c.args.table.now 1 0)
    in let put : buf c.put_line.new.to ≡ puts (buf c.loop-s.to) (line_text (letters_at c.loop-s.r.counts.labels (drop 1 c.args.table.now)) (items_at (row_place c.args.s.form c.args.s.section)) (row_of (drop c.loop-s.r.cells c.args.table.now))) = c.put_line.ensures.wrote.bytes ∙ rw (layout_line c.args.s c.requires.room.3, row_part c.args.table.now c.loop-s.r.cells whole)
    in rw c.counts_after.ensures.answer (c.put_line.ensures.wrote.same ∙ c.loop-s.invariant.0, placed_after c.args.s.section c.loop-s.r.cells c.loop-s.r.counts _ c.loop-s.invariant.1, omega (arith, room), omega (arith, c.loop-s.invariant.3), rows_pass c.args.s.form c.args.s.section c.loop-s.r.cells c.args.table.now c.loop-s.r.counts c.loop-s.invariant.2 (sym c.row_comes.ensures.answer ∙ c.loop-s-test.true) c.loop-s.invariant.4 c.loop-s.invariant.1 _ first (buf c.loop-s.to) c.put_line.new.to put, rows_again c.args.s.form c.args.s.section c.loop-s.r.cells c.args.table.now c.loop-s.r.counts c.loop-s.invariant.2 (sym c.row_comes.ensures.answer ∙ c.loop-s-test.true) c.loop-s.invariant.4 c.loop-s.invariant.1 _ first (buf c.loop-s.to) c.put_line.new.to put ∙ c.loop-s.invariant.5)

pub returns : goal.returns
returns c = record {
  same = c.loop-s.invariant.0;
  answer = rows_stop c.args.s.form c.args.s.section c.loop-s.r.cells c.args.table.now c.loop-s.r.counts c.loop-s.invariant.2 c.loop-s.to (sym c.row_comes.ensures.answer ∙ c.loop-s-test.false) ∙ c.loop-s.invariant.5;
  taken = record { most = c.loop-s.invariant.2; longer = c.loop-s.invariant.3; placed = c.loop-s.invariant.1 };
}
