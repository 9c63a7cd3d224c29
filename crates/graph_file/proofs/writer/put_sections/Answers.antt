use mathlib.Core.Path.{refl, ap, ◌∙◌}
use Rattle.text_field.specs.Writing.{buf}
use Rattle.graph_file.specs.Writer.{pour}
use Rattle.graph_rows.proofs.CountLaws.{placed_next, placed_start, section_room, next_room, first_room}
use Rattle.graph_file.proofs.StageLaws.{none_counted}
use Rattle.graph_file.proofs.WriteStages.{sections_start, sections_first, sections_pass, sections_again, sections_end, made_poured}
use Rattle.graph_file.proofs.writer.put_sections.Goals as goal

pub loop-k-init : goal.loop-k-init
loop-k-init c = rw (none_counted c.default.result c.default.ensures) (refl, placed_start, first_room, (c.requires.passes.0, sections_start c.args.form c.args.table.now ∙ c.requires.passes.1), ap (pour (buf c.args.to.now)) (sections_start c.args.form c.args.table.now))

pub put_section-r-requires : goal.put_section-r-requires
put_section-r-requires c = record { room = (section_room c.loop-k.k c.loop-k.r.cells c.loop-k-test.true c.loop-k.invariant.2, c.loop-k.invariant.1); passes = sections_first c.args.form c.loop-k.k c.args.table.now c.loop-k.r.cells c.loop-k.r.counts c.loop-k-test.true c.loop-k.invariant.3 }

pub loop-k-preserved : goal.loop-k-preserved
loop-k-preserved c =
    let t = c.put_section-r.ensures.taken
    in (c.put_section-r.ensures.same ∙ c.loop-k.invariant.0, placed_next c.loop-k.k _ _ t.placed, next_room c.loop-k.k c.loop-k.r.cells _ _ c.loop-k.invariant.2 t.most t.longer, sections_pass c.args.form c.loop-k.k c.args.table.now c.loop-k.r.cells c.loop-k.r.counts c.loop-k-test.true c.loop-k.invariant.3 (buf c.loop-k.to) c.put_section-r.result c.put_section-r.new.to c.put_section-r.ensures.answer, sections_again c.args.form c.loop-k.k c.args.table.now c.loop-k.r.cells c.loop-k.r.counts c.loop-k-test.true c.loop-k.invariant.3 (buf c.loop-k.to) c.put_section-r.result c.put_section-r.new.to c.put_section-r.ensures.answer ∙ c.loop-k.invariant.4)

pub returns : goal.returns
returns c = record { wrote = λ g e. record { same = c.loop-k.invariant.0; bytes = made_poured c.loop-k.r c.args.table.now _ c.loop-k.to g (sections_end c.args.form c.loop-k.k c.args.table.now c.loop-k.r.cells c.loop-k.r.counts c.loop-k-test.false c.loop-k.invariant.3 c.loop-k.to ∙ c.loop-k.invariant.4 ∙ ap (pour (buf c.args.to.now)) e) } }
