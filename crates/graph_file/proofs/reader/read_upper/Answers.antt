use Prim.Native.Nat.{ℕ}
use mathlib.Core.Path.{ap, ◌∙◌}
use mathlib.Core.List.{List}
use native.Mathlib.Omega.{arith}
use borrow.Author.Rules.{rules}
use lib.ListN.{length, set, length-set}
use Rattle.text_field.specs.Refusal.{number_of}
use Rattle.graph_rows.specs.Format.{turn_form, edge_section}
use Rattle.graph_file.specs.File.{read_names, form_shown}
use Rattle.graph_file.specs.Reader.{part_outcome}
use Rattle.graph_file.proofs.ReadLaws.{part_refused}
use Rattle.graph_file.proofs.StageLaws.{none_counted}
use Rattle.graph_file.proofs.ReadForm.{begin_taken, five_refused, turns_here, six_read, turns_told}
use Rattle.graph_file.proofs.RoomLaws.{room_first, room_same}
use Rattle.graph_file.proofs.SectionLaws.{part_is}
use Rattle.graph_file.proofs.reader.read_upper.Goals as goal

pub read_some-requires : goal.read_some-requires
read_some-requires c = record { room = (room_same c.args.text.now (length c.args.table.now) (length (set c.args.table.now 0 0)) c.requires.room (length-set c.args.table.now 0 0), omega arith, omega arith, rw (none_counted c.default.result c.default.ensures) (begin_taken _)) }

pub returns-in_err-above-clause-answer : goal.returns-in_err-above-clause-answer
unfolding part_outcome
returns-in_err-above-clause-answer c =
    let none = none_counted c.default.result c.default.ensures
    in part_refused _ _ _ c.in_err-above.field-0.0 (search rules) ∙ five_refused c.args.table.now c.args.text.now (room_first c.args.text.now (length c.args.table.now) c.requires.room) (number_of c.in_err-above.field-0.0) (rw none at c.in_err-above.ensures.answer)

pub returns-clause-answer : goal.returns-clause-answer
unfolding part_outcome
returns-clause-answer c =
    let none = none_counted c.default.result c.default.ensures
    in let known = c.turns_at-form.ensures.answer ∙ ap (λ (s : List ℕ). form_shown turn_form (read_names turn_form edge_section s)) (part_is c.args.text.now c.in_ok-above.above.next) ∙ turns_here c.args.table.now c.args.text.now (room_first c.args.text.now (length c.args.table.now) c.requires.room) c.read_some.new.table c.in_ok-above.above (rw none at c.in_ok-above.ensures.answer)
    in c.read_some-2.ensures.answer ∙ six_read c.args.table.now c.args.text.now (room_first c.args.text.now (length c.args.table.now) c.requires.room) c.read_some.new.table c.in_ok-above.above (rw none at c.in_ok-above.ensures.answer) c.in_ok-above.ensures.taken.placed c.turns_at-form.result known

pub returns-clause-form : goal.returns-clause-form
unfolding part_outcome
returns-clause-form c =
    let none = none_counted c.default.result c.default.ensures
    in let known = c.turns_at-form.ensures.answer ∙ ap (λ (s : List ℕ). form_shown turn_form (read_names turn_form edge_section s)) (part_is c.args.text.now c.in_ok-above.above.next) ∙ turns_here c.args.table.now c.args.text.now (room_first c.args.text.now (length c.args.table.now) c.requires.room) c.read_some.new.table c.in_ok-above.above (rw none at c.in_ok-above.ensures.answer)
    in turns_told c.args.table.now c.args.text.now (room_first c.args.text.now (length c.args.table.now) c.requires.room) c.read_some.new.table c.in_ok-above.above (rw none at c.in_ok-above.ensures.answer) c.in_ok-above.ensures.taken.placed c.turns_at-form.result known c.read_some-2.result c.read_some-2.new.table c.read_some-2.ensures.answer
