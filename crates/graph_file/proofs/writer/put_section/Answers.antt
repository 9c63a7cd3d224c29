use mathlib.Core.Path.{◌∙◌}
use Rattle.graph_rows.proofs.ColumnLaws.{layout_form, layout_section, layout_known}
use Rattle.graph_rows.proofs.CountLaws.{placed_begun, rows_begun}
use Rattle.text_field.specs.Writing.{buf}
use Rattle.graph_file.proofs.WriteStages.{names_put, section_passes, section_poured}
use Rattle.graph_file.proofs.writer.put_section.Goals as goal

pub put_rows-requires : goal.put_rows-requires
put_rows-requires c =
    let is = layout_section c.args.form c.args.k _ c.layout_of.ensures.answer
    in let file = layout_form c.args.form c.args.k _ c.layout_of.ensures.answer
    in record {
      room = (rw is c.requires.room.0, rw (is, c.counts_begun.ensures.answer) (placed_begun c.args.k c.args.above.cells c.args.above.counts c.requires.room.1), rw c.counts_begun.ensures.answer (rows_begun c.args.above.counts), layout_known c.args.form c.args.k _ c.layout_of.ensures.answer);
      passes = rw (is, file, c.counts_begun.ensures.answer) (section_passes c.args.form c.args.k c.args.table.now c.args.above.cells c.args.above.counts c.requires.passes);
    }

pub returns : goal.returns
returns c =
    let is = layout_section c.args.form c.args.k _ c.layout_of.ensures.answer
    in let file = layout_form c.args.form c.args.k _ c.layout_of.ensures.answer
    in record {
      same = c.put_rows.ensures.same ∙ c.put_line.ensures.wrote.same;
      answer = (rw (is, file, c.counts_begun.ensures.answer) at c.put_rows.ensures.answer) ∙ section_poured c.args.form c.args.k c.args.table.now c.args.above.cells c.args.above.counts c.requires.passes (buf c.args.to.now) _ (names_put c.args.form c.args.k _ _ _ _ _ c.put_line.ensures.wrote.bytes c.names_place.ensures.answer);
      taken = rw is at c.put_rows.ensures.taken;
    }
