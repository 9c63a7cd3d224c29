use borrow.Author.Rules.{rules}
use mathlib.Core.Path.{◌≡◌, sym, ap, ◌∙◌}
use Rattle.text_field.specs.Buffer.{puts}
use Rattle.text_field.specs.Writing.{buf}
use Rattle.graph_file.specs.Writer.{text_in}
use Rattle.text_field.proofs.WritingLaws.{written}
use Rattle.graph_file.proofs.WriteStages.{graph_passes, text_made}
use Rattle.graph_file.proofs.writer.put_text.Goals as goal

pub put_sections-requires : goal.put_sections-requires
put_sections-requires c = record { passes = rw c.form_in.ensures.answer (graph_passes c.args.table.now c.requires.graph) }

pub returns : goal.returns
returns c =
    let p = graph_passes c.args.table.now c.requires.graph
    in let w = c.put_sections.ensures.wrote p.0 (rw c.form_in.ensures.answer p.1)
    in let m : buf c.put_sections.new.to ≡ puts (c.args.out.now, 0) (text_in c.args.table.now) = written _ _ _ _ c.new-to.ensures.starts w ∙ ap (puts (c.args.out.now, 0)) (sym (text_made c.args.table.now c.requires.graph))
    in record { written = search (rules, w.same, m) }
