use mathlib.Core.Path.{ap, ◌∙◌}
use Rattle.graph_file.specs.Reader.{took}
use Rattle.graph_file.proofs.LineLaws.{byte_took}
use Rattle.graph_file.proofs.line.take_byte.Goals as goal

pub returns : goal.returns
returns c = record { answer = ap (λ x. took x c.args.text.now) c.then_some.ensures ∙ byte_took c.args.of_class c.args.v c.args.at c.past.result c.args.text.now c.past.ensures.place }
