use Prim.Native.Nat.{◌+◌}
use mathlib.Core.Path.{◌≡◌}
use lib.ListN.{drop}
use Rattle.graph_rows.specs.Admission.{row_of, key_less}
use Rattle.graph_rows.specs.Table.{format_bytes, key_at}
use Rattle.graph_rows.proofs.admission.key_less.Given as goal

abbrev pub invariant-loop-x : goal.invariant-loop-x
invariant-loop-x l = (l.x-items ≡ drop l.o format_bytes) × (key_less (key_at (l.o + l.x-index)) (row_of (drop l.q l.table)) (row_of (drop l.p l.other)) ≡ key_less (key_at l.o) (row_of (drop l.q l.table)) (row_of (drop l.p l.other)))
