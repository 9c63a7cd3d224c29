-- `list_scopes` meets its contract. Assumes nothing.
use native.Mathlib.Omega.{arith}
use Rattle.was.specs.Cells.{in_cells}
use Rattle.was.proofs.Tables.{scopes_most, start_is, start_below, part_below, met_begins, list_is}
use Rattle.was.proofs.order.list_scopes.Goals as goal

pub list_met-listed-requires : goal.list_met-listed-requires
list_met-listed-requires c = let s = start_is c.args.table.now c.requires.read _ c.first_in.ensures.answer in let b = start_below c.args.table.now c.requires.read in let m = scopes_most c.args.table.now c.requires.read in record { start = omega arith; scopes = part_below c.args.table.now c.requires.read _ c.section_rows.ensures.answer }

pub list_unmet-requires : goal.list_unmet-requires
unfolding in_cells
list_unmet-requires c = let m = scopes_most c.args.table.now c.requires.read in record { count = omega arith; listed = met_begins c.args.table.now c.requires.read _ c.section_rows.ensures.answer _ (start_is c.args.table.now c.requires.read _ c.first_in.ensures.answer) _ _ c.list_met-listed.ensures.count c.list_met-listed.ensures.memory }

pub returns : goal.returns
unfolding in_cells
returns c = record { answer = list_is c.args.table.now c.requires.read _ c.section_rows.ensures.answer _ (start_is c.args.table.now c.requires.read _ c.first_in.ensures.answer) _ _ c.list_met-listed.ensures.count c.list_met-listed.ensures.memory _ _ c.scope_count.ensures.answer c.list_unmet.ensures.memory }
