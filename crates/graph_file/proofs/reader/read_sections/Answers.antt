use Prim.Native.Nat.{ℕ}
use mathlib.Core.Path.{ap, ◌∙◌}
use native.Mathlib.Omega.{arith}
use borrow.Author.Rules.{rules}
use lib.ListN.{length, drop}
use Rattle.text_field.specs.Refusal.{number_of}
use Rattle.graph_rows.specs.Format.{kind_form, declaration_section}
use Rattle.graph_file.specs.File.{read_names, form_shown, form_with}
use Rattle.graph_file.specs.Reader.{part_outcome}
use Rattle.graph_file.proofs.ReadLaws.{part_refused}
use Rattle.graph_file.proofs.ReadForm.{six_refused, form_here, last_refused, last_left, last_over, form_kept}
use Rattle.graph_file.proofs.RoomLaws.{room_cells}
use Rattle.graph_file.proofs.reader.read_sections.Goals as goal

pub returns-in_err-above-clause-answer : goal.returns-in_err-above-clause-answer
unfolding part_outcome
returns-in_err-above-clause-answer c = part_refused _ _ _ c.in_err-above.field-0.0 (search rules) ∙ six_refused c.args.text.now (number_of c.in_err-above.field-0.0) c.in_err-above.ensures.answer

pub returns-in_err-r-clause-answer : goal.returns-in_err-r-clause-answer
unfolding part_outcome
returns-in_err-r-clause-answer c =
    let known = c.kinds_at-form.ensures.answer ∙ ap (λ (x : ℕ). form_with x (form_shown kind_form (read_names kind_form declaration_section (drop c.in_ok-above.above.next c.args.text.now)))) c.in_ok-above.ensures.form ∙ form_here c.args.text.now c.read_upper.new.table c.in_ok-above.above c.in_ok-above.ensures.answer
    in part_refused _ _ _ c.in_err-r.field-0.0 (search rules) ∙ last_refused c.args.text.now c.read_upper.new.table c.in_ok-above.above c.in_ok-above.ensures.answer c.in_ok-above.ensures.taken.placed c.kinds_at-form.result known (number_of c.in_err-r.field-0.0) c.in_err-r.ensures.answer

pub returns-then-r-text-clause-answer : goal.returns-then-r-text-clause-answer
unfolding part_outcome number_of
returns-then-r-text-clause-answer c =
    let known = c.kinds_at-form.ensures.answer ∙ ap (λ (x : ℕ). form_with x (form_shown kind_form (read_names kind_form declaration_section (drop c.in_ok-above.above.next c.args.text.now)))) c.in_ok-above.ensures.form ∙ form_here c.args.text.now c.read_upper.new.table c.in_ok-above.above c.in_ok-above.ensures.answer
    in last_left c.args.text.now c.read_upper.new.table c.in_ok-above.above c.in_ok-above.ensures.answer c.in_ok-above.ensures.taken.placed c.kinds_at-form.result known c.in_ok-r.r c.read_some.new.table c.in_ok-r.ensures.answer c.if-r-text.true

pub returns : goal.returns
unfolding part_outcome
returns c =
    let known = c.kinds_at-form.ensures.answer ∙ ap (λ (x : ℕ). form_with x (form_shown kind_form (read_names kind_form declaration_section (drop c.in_ok-above.above.next c.args.text.now)))) c.in_ok-above.ensures.form ∙ form_here c.args.text.now c.read_upper.new.table c.in_ok-above.above c.in_ok-above.ensures.answer
    in let t = c.in_ok-r.ensures.taken
    in record {
      answer = last_over c.args.text.now c.read_upper.new.table c.in_ok-above.above c.in_ok-above.ensures.answer c.in_ok-above.ensures.taken.placed c.kinds_at-form.result known c.in_ok-r.r c.read_some.new.table c.in_ok-r.ensures.answer c.if-r-text.false;
      size = room_cells 9 c.in_ok-r.r.cells (length c.args.table.now) c.args.text.now (drop c.in_ok-r.r.next c.args.text.now) c.requires.room (omega arith) t.room t.lines;
      form = form_kept c.args.text.now c.read_upper.new.table c.in_ok-above.above c.in_ok-above.ensures.answer c.in_ok-above.ensures.taken.placed c.kinds_at-form.result known c.in_ok-r.r c.read_some.new.table c.in_ok-r.ensures.answer;
    }
