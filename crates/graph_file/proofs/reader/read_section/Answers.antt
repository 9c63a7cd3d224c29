use Prim.Native.Nat.{ℕ}
use mathlib.Core.Path.{◌≡◌, ap, ◌∙◌}
use native.Mathlib.Omega.{arith}
use borrow.Author.Rules.{rules}
use lib.ListN.{length, drop}
use Rattle.text_field.specs.Refusal.{number_of}
use Rattle.graph_rows.specs.Admission.{blank}
use Rattle.graph_file.specs.Line.{read_items}
use Rattle.graph_rows.specs.Table.{items_at, letters_at}
use Rattle.graph_file.specs.Reader.{part_outcome}
use Rattle.graph_rows.proofs.CountLaws.{placed_begun, rows_begun}
use Rattle.graph_file.proofs.ReadLaws.{part_refused}
use Rattle.graph_file.proofs.SectionLaws.{names_refused, section_refused, section_few, section_done, clipped}
use Rattle.graph_file.proofs.RoomLaws.{room_later, line_passed}
use Rattle.graph_rows.proofs.ColumnLaws.{layout_form, layout_section, layout_known}
use Rattle.graph_file.proofs.reader.read_section.Goals as goal

pub returns-in_default-clause-answer : goal.returns-in_default-clause-answer
unfolding part_outcome number_of
returns-in_default-clause-answer c = names_refused c.args.form c.args.k c.args.cells c.args.table.now c.args.rest.now 0 c.args.counts c.read_line.result (c.read_line.ensures.answer ∙ ap (λ (o : ℕ). read_items (letters_at 0 (drop 1 c.args.table.now)) (items_at o) blank c.args.rest.now) c.names_place.ensures.answer) c.in_default.is

pub read_rows-requires : goal.read_rows-requires
read_rows-requires c =
    let is = layout_section c.args.form c.args.k _ c.layout_of.ensures.answer
    in let later = line_passed _ _ _ _ c.args.rest.now c.in-Some.names c.in-Some.ensures.answer
    in record { room = (rw is (room_later c.args.k c.args.cells (length c.args.table.now) c.args.rest.now (drop c.in-Some.names.next c.args.rest.now) later c.requires.room.0), rw is c.requires.room.1, rw (is, c.counts_begun.ensures.answer) (placed_begun c.args.k c.args.cells c.args.counts c.requires.room.2), rw c.counts_begun.ensures.answer (rows_begun c.args.counts), layout_known c.args.form c.args.k _ c.layout_of.ensures.answer) }

pub returns-in_err-r-clause-answer : goal.returns-in_err-r-clause-answer
unfolding part_outcome
returns-in_err-r-clause-answer c =
    let is = layout_section c.args.form c.args.k _ c.layout_of.ensures.answer
    in let file = layout_form c.args.form c.args.k _ c.layout_of.ensures.answer
    in part_refused _ _ _ c.in_err-r.field-0.0 (search rules) ∙ section_refused c.args.form c.args.k c.args.cells c.args.table.now c.args.rest.now 0 c.args.counts c.read_line.result (c.read_line.ensures.answer ∙ ap (λ (o : ℕ). read_items (letters_at 0 (drop 1 c.args.table.now)) (items_at o) blank c.args.rest.now) c.names_place.ensures.answer) c.in-Some.names c.in-Some.is (number_of c.in_err-r.field-0.0) (rw (is, file, c.counts_begun.ensures.answer) at c.in_err-r.ensures.answer)

pub returns-then-r-least-clause-answer : goal.returns-then-r-least-clause-answer
unfolding part_outcome number_of
returns-then-r-least-clause-answer c =
    let is = layout_section c.args.form c.args.k _ c.layout_of.ensures.answer
    in let file = layout_form c.args.form c.args.k _ c.layout_of.ensures.answer
    in section_few c.args.form c.args.k c.args.cells c.args.table.now c.args.rest.now 0 c.args.counts c.read_line.result (c.read_line.ensures.answer ∙ ap (λ (o : ℕ). read_items (letters_at 0 (drop 1 c.args.table.now)) (items_at o) blank c.args.rest.now) c.names_place.ensures.answer) c.in-Some.names c.in-Some.is c.in_ok-r.r c.read_rows.new.table (rw (is, file, c.counts_begun.ensures.answer) at c.in_ok-r.ensures.answer) (omega (arith, c.if-r-least.true, c.least.ensures.answer))

pub returns : goal.returns
unfolding part_outcome
returns c =
    let is = layout_section c.args.form c.args.k _ c.layout_of.ensures.answer
    in let file = layout_form c.args.form c.args.k _ c.layout_of.ensures.answer
    in let cut : drop c.min.result c.args.rest.now ≡ drop c.in_ok-r.r.next c.args.rest.now = ap (λ (n : ℕ). drop n c.args.rest.now) c.min.ensures ∙ clipped c.args.rest.now c.in_ok-r.r.next
    in record {
      answer = rw cut (section_done c.args.form c.args.k c.args.cells c.args.table.now c.args.rest.now 0 c.args.counts c.read_line.result (c.read_line.ensures.answer ∙ ap (λ (o : ℕ). read_items (letters_at 0 (drop 1 c.args.table.now)) (items_at o) blank c.args.rest.now) c.names_place.ensures.answer) c.in-Some.names c.in-Some.is c.in_ok-r.r c.read_rows.new.table (rw (is, file, c.counts_begun.ensures.answer) at c.in_ok-r.ensures.answer) (omega (arith, c.if-r-least.false, c.least.ensures.answer)));
      taken = record { rows = rw is at c.in_ok-r.ensures.taken; inside = omega (arith, c.min.ensures) };
    }
