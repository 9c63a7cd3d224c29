-- `new_row` meets its contract: each value is under its new number if it is a scope. Assumes
-- nothing.
use Rattle.scope_graph.specs.Renamed.{new_number}
use Rattle.graph_rows.specs.Tested.{form_in}
use Rattle.renumbered.proofs.Sections.{row_at_under}
use Rattle.renumbered.proofs.row.new_row.Goals as goal

pub returns : goal.returns
returns c = record {
  answer = row_at_under (new_number c.args.was.now) (form_in c.args.table.now) c.args.table.now c.args.p c.requires.section _ _
      c.new_value-first.ensures.answer c.new_value-third.ensures.answer;
}
