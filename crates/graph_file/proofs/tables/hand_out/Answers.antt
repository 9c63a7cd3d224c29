-- `hand_out` meets its contract: the cells are copied whole, or nothing is. Assumes nothing.
use mathlib.Core.Path.{refl, sym, ◌∙◌}
use native.Mathlib.Omega.{arith}
use lib.ListN.{length}
use lib.Seq.{length-take-le}
use Rattle.text_field.specs.Outcome.{done}
use Rattle.text_field.specs.Answer.{answer_of}
use Rattle.text_field.specs.Refusal.{number_of}
use Rattle.text_field.proofs.AnswerLaws.{answer_short, leaves_short, answer_fits}
use Rattle.graph_file.proofs.CopyLaws.{copied}
use Rattle.graph_file.proofs.tables.hand_out.Goals as goal

pub returns-then-table-n : goal.returns-then-table-n
unfolding answer_of number_of
returns-then-table-n c = record { answer = answer_short (done c.args.cells.now) _ refl (length c.args.table.now) c.if-table-n.true; memory = leaves_short (done c.args.cells.now) _ refl c.args.table.now c.if-table-n.true }

pub copy_from_slice-requires : goal.copy_from_slice-requires
copy_from_slice-requires c = omega (arith, length-take-le (length c.args.cells.now) c.args.table.now c.if-table-n.false)

pub returns : goal.returns
unfolding answer_of
returns c = record { answer = answer_fits (done c.args.cells.now) _ refl (length c.args.table.now) (length c.args.cells.now) refl c.if-table-n.false; memory = copied (done c.args.cells.now) _ c.args.table.now c.copy_from_slice.new.self (length c.args.cells.now) refl c.copy_from_slice.ensures.after refl c.if-table-n.false }
