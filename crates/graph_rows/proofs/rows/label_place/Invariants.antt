use Prim.Native.Nat.{◌-◌, ◌+◌, ◌*◌}
use mathlib.Core.Path.{◌≡◌}
use lib.ListN.{drop}
use Rattle.graph_rows.specs.Admission.{place}
use Rattle.graph_rows.specs.Table.{letters_at}
use Rattle.graph_rows.proofs.rows.label_place.Given as goal

abbrev pub invariant-loop-i : goal.invariant-loop-i
invariant-loop-i l = l.i + place l.x (letters_at (l.labels - l.i) (drop (1 + 6 * l.i) l.table)) ≡ place l.x (letters_at l.labels (drop 1 l.table))
