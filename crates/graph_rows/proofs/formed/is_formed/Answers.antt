use mathlib.Core.Path.{ap, ◌∙◌}
use Rattle.text_field.proofs.ByteLaws.{and_first, and_second}
use Rattle.graph_rows.specs.Format.{every_item}
use Rattle.graph_rows.specs.Values.{item_formed, formed}
use Rattle.graph_rows.specs.Table.{items_at}
use Rattle.graph_rows.proofs.FormatLaws.{row_items}
use Rattle.graph_rows.proofs.ColumnLaws.{layout_line}
use Rattle.graph_rows.proofs.formed.is_formed.Goals as goal

pub returns-then-items_formed : goal.returns-then-items_formed
unfolding formed
returns-then-items_formed c = record { answer = and_second _ _ _ _ (c.items_formed.ensures.answer ∙ ap (every_item (item_formed c.args.row.now)) (ap items_at (layout_line c.args.s c.requires.layout) ∙ row_items c.args.s.form c.args.s.section)) c.if-items_formed.true c.idle_zeros.ensures.answer }

pub returns-else-items_formed : goal.returns-else-items_formed
unfolding formed
returns-else-items_formed c = record { answer = and_first _ _ _ c.items_formed.result (c.items_formed.ensures.answer ∙ ap (every_item (item_formed c.args.row.now)) (ap items_at (layout_line c.args.s c.requires.layout) ∙ row_items c.args.s.form c.args.s.section)) c.if-items_formed.false }
