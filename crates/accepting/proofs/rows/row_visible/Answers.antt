-- `row_visible` meets its contract: the row is taken apart and judged. Assumes nothing.
use mathlib.Core.Path.{◌∙◌}
use Rattle.path_row.proofs.RowReads.{row_is_refused}
use Rattle.path_row.proofs.TakenLaws.{at_hand_all}
use Rattle.judge.proofs.Calls.{row_read}
use Rattle.accepting.proofs.RowTests.{text_none, text_judged}
use Rattle.accepting.proofs.rows.row_visible.Goals as goal

pub returns-in_default : goal.returns-in_default
returns-in_default c = record { answer = text_none c.args.table.now c.args.q c.args.row.now (row_is_refused c.args.row.now _ c.read_row.ensures.answer c.in_default.is) }

pub standing-requires : goal.standing-requires
standing-requires c = record { asked = c.requires.asked; made = c.requires.made }

pub returns : goal.returns
returns c = record { answer = text_judged c.args.table.now c.args.q c.args.row.now _ _ _ (row_read c.args.row.now _ c.read_row.ensures.answer _ _ _ c.in-Some.is) _ c.steps_of.ensures.answer _ (c.as_slice.ensures.answer ∙ at_hand_all _ _ c.steps_of.ensures.answer) _ c.standing.ensures.answer _ c.is_visible.ensures.answer }
