use Prim.Native.Nat.{ℕ}
use mathlib.Core.Path.{◌≡◌, refl, ap, ◌∙◌}
use native.Mathlib.Omega.{arith}
use borrow.Author.Rules.{rules}
use lib.ListN.{length, drop}
use Rattle.text_field.specs.Answer.{fault_of}
use Rattle.text_field.specs.Refusal.{number_of}
use Rattle.graph_rows.specs.Admission.{blank, value}
use Rattle.graph_file.specs.Line.{read_items}
use Rattle.graph_rows.specs.Table.{items_at, letters_at}
use Rattle.graph_file.specs.Reader.{line_outcome, part_outcome}
use Rattle.graph_rows.specs.Counting.{counts_after}
use Rattle.graph_rows.proofs.ColumnLaws.{layout_line}
use Rattle.graph_rows.proofs.CountLaws.{placed_after}
use Rattle.graph_file.proofs.LineLaws.{line_length}
use Rattle.graph_file.proofs.ReadLaws.{put_grown, one_refused, one_not, one_taken, one_room, part_refused}
use Rattle.graph_file.proofs.SortedLaws.{put_sorted}
use Rattle.graph_file.proofs.reader.read_row.Goals as goal

pub returns-in_default-clause-answer : goal.returns-in_default-clause-answer
unfolding part_outcome line_outcome number_of
returns-in_default-clause-answer c = one_refused c.args.s.form c.args.s.section c.args.so_far.cells c.args.table.now c.args.text.now c.args.so_far.next c.args.so_far.counts (c.in_default.ensures.answer ∙ ap (λ (o : ℕ). read_items (letters_at c.args.so_far.counts.labels (drop 1 c.args.table.now)) (items_at o) blank (drop c.args.so_far.next c.args.text.now)) (layout_line c.args.s c.requires.room.3))

pub admitted-requires-clause-sorted : goal.admitted-requires-clause-sorted
admitted-requires-clause-sorted c =
    let w : length c.in-Some.line.row ≡ 5 = line_length _ _ blank _ c.args.text.now c.in-Some.line c.in-Some.ensures.answer
    in put_sorted c.args.s.section c.args.so_far.cells c.args.table.now _ c.in-Some.line.row c.args.so_far.counts c.requires.room.2 (omega (arith, c.requires.room.0)) w (put_grown _ _ _ _ _ _ c.requires.room.0 w c.put_row.ensures.written) c.requires.sorted

pub returns-in_err-admitted-clause-answer : goal.returns-in_err-admitted-clause-answer
returns-in_err-admitted-clause-answer c =
    let w : length c.in-Some.line.row ≡ 5 = line_length _ _ blank _ c.args.text.now c.in-Some.line c.in-Some.ensures.answer
    in part_refused _ _ _ c.in_err-admitted.field-0.0 (search rules) ∙ one_not c.args.s.form c.args.s.section c.args.so_far.cells c.args.table.now c.args.text.now c.args.so_far.next c.args.so_far.counts c.in-Some.line (c.in-Some.ensures.answer ∙ ap (λ (o : ℕ). read_items (letters_at c.args.so_far.counts.labels (drop 1 c.args.table.now)) (items_at o) blank (drop c.args.so_far.next c.args.text.now)) (layout_line c.args.s c.requires.room.3)) c.requires.room.2 c.requires.room.0 w c.put_row.new.table (put_grown _ _ _ _ _ _ c.requires.room.0 w c.put_row.ensures.written) c.in_err-admitted.field-0.0 c.in_err-admitted.ensures.answer

pub returns-clause-answer : goal.returns-clause-answer
unfolding part_outcome fault_of
returns-clause-answer c =
    let w : length c.in-Some.line.row ≡ 5 = line_length _ _ blank _ c.args.text.now c.in-Some.line c.in-Some.ensures.answer
    in rw c.counts_after.ensures.answer (one_taken c.args.s.form c.args.s.section c.args.so_far.cells c.args.table.now c.args.text.now c.args.so_far.next c.args.so_far.counts c.in-Some.line (c.in-Some.ensures.answer ∙ ap (λ (o : ℕ). read_items (letters_at c.args.so_far.counts.labels (drop 1 c.args.table.now)) (items_at o) blank (drop c.args.so_far.next c.args.text.now)) (layout_line c.args.s c.requires.room.3)) c.requires.room.2 c.requires.room.0 w c.put_row.new.table (put_grown _ _ _ _ _ _ c.requires.room.0 w c.put_row.ensures.written) c.in_ok-admitted.ensures.answer)

pub returns-clause-taken : goal.returns-clause-taken
unfolding fault_of counts_after
returns-clause-taken c =
    let w : length c.in-Some.line.row ≡ 5 = line_length _ _ blank _ c.args.text.now c.in-Some.line c.in-Some.ensures.answer
    in let f : c.counts_after.result ≡ counts_after c.args.s.section c.args.so_far.counts (value c.in-Some.line.row 0) = c.counts_after.ensures.answer
    in rw f (record {
      room = one_room c.args.s.form c.args.s.section c.args.so_far.cells c.args.table.now c.args.text.now c.args.so_far.next c.args.so_far.counts c.in-Some.line (c.in-Some.ensures.answer ∙ ap (λ (o : ℕ). read_items (letters_at c.args.so_far.counts.labels (drop 1 c.args.table.now)) (items_at o) blank (drop c.args.so_far.next c.args.text.now)) (layout_line c.args.s c.requires.room.3)) c.requires.room.2 c.requires.room.0 w c.put_row.new.table (put_grown _ _ _ _ _ _ c.requires.room.0 w c.put_row.ensures.written) c.in_ok-admitted.ensures.answer;
      longer = refl;
      more = refl;
      placed = placed_after c.args.s.section c.args.so_far.cells c.args.so_far.counts (value c.in-Some.line.row 0) c.requires.room.2;
    })
