use Prim.Native.Nat.{◌+◌, ◌*◌}
use mathlib.Core.Path.{◌≡◌}
use lib.ListN.{drop}
use Rattle.graph_rows.specs.Format.{edge_section}
use Rattle.graph_rows.specs.Admission.{repeats}
use Rattle.graph_rows.specs.Decode.{rows_in}
use Rattle.graph_change.proofs.EdgeLaws.{edge_among}
use Rattle.graph_change.proofs.edges.has_edge.Given as goal

abbrev pub invariant-loop-i : goal.invariant-loop-i
invariant-loop-i l = edge_among l.row (drop (l.first + l.i * 6) l.cells) ≡ repeats (rows_in edge_section l.cells) l.row
