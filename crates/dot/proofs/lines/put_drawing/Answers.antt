-- `put_drawing` meets its contract. Assumes nothing.
use borrow.Author.Rules.{rules}
use Rattle.text_field.proofs.WritingLaws.{◌then◌, written}
use Rattle.dot.specs.Drawing.{close_line}
use Rattle.dot.proofs.Found.{table_puts}
use Rattle.dot.proofs.lines.put_drawing.Goals as goal

pub returns : goal.returns
unfolding close_line
returns c =
    let w = c.put_head.ensures.wrote then c.put_scopes.ensures.wrote then c.put_edges.ensures.wrote then c.put_bytes.ensures.wrote
    in let m = table_puts c.args.table.now c.requires.read _ _ c.section_rows-edges.ensures.answer c.section_rows.ensures.answer _ c.has_turn.ensures.answer _ c.scope_count.ensures.answer _ _ _ _ _ (written _ _ _ _ c.new-to.ensures.starts c.put_head.ensures.wrote) c.put_scopes.ensures.wrote.bytes c.put_edges.ensures.wrote.bytes c.put_bytes.ensures.wrote.bytes
    in record { written = search (rules, w.same, m) }
