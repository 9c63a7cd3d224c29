use Prim.Native.Nat.{◌*◌}
use lib.ListN.{drop}
use Rattle.text_field.proofs.WritingLaws.{Left}
use Rattle.dot.specs.Rows.{edge_lines}
use Rattle.dot.proofs.lines.put_edges.Given as goal

abbrev pub invariant-loop-i : goal.invariant-loop-i
invariant-loop-i l = Left l.initial.to l.to (edge_lines l.labels l.edges) (edge_lines l.labels (drop (6 * l.i) l.edges))
