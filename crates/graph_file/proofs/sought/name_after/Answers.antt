use mathlib.Core.Path.{◌∙◌}
use Rattle.graph_file.proofs.SoughtLaws.{place_after}
use Rattle.graph_file.proofs.SoughtStart.{start_place}
use Rattle.graph_file.proofs.sought.name_after.Goals as goal

pub returns : goal.returns
returns c = record { answer = place_after c.args.form c.args.text.now c.args.lines c.after_lines.result _ _ c.after_lines.ensures.place (c.unwrap_or-from.ensures ∙ start_place c.args.text.now _ c.name_start.result c.name_start.ensures.place c.name_start.ensures.inside) c.name_stop.ensures.answer }
