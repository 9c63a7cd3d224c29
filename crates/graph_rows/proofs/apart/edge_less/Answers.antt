use mathlib.Core.Path.{◌∙◌}
use lib.ListN.{drop}
use Rattle.graph_rows.specs.Admission.{row_of}
use Rattle.graph_rows.specs.LookBack.{edge_key}
use Rattle.graph_rows.proofs.AdmissionLaws.{edge_told}
use Rattle.graph_rows.proofs.apart.edge_less.Goals as goal

pub returns : goal.returns
unfolding edge_key
returns c = record { answer = c.lt.ensures ∙ rw (c.edge_key.ensures.answer, c.edge_key-2.ensures.answer) (edge_told (row_of (drop c.args.q c.args.table.now)) (row_of (drop c.args.p c.args.table.now))) }
