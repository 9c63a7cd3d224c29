use Prim.Native.Nat.{◌-◌, ◌≤◌}
use mathlib.Core.Path.{◌≡◌}
use lib.ListN.{drop}
use Rattle.graph_rows.specs.Admission.{row_of}
use Rattle.graph_rows.specs.LookBack.{found_looking_back}
use Rattle.graph_rows.specs.Table.{rows_back}
use Rattle.graph_rows.proofs.apart.stands_above.Given as goal

abbrev pub invariant-loop : goal.invariant-loop
invariant-loop l = (l.q ≤ l.p) × (found_looking_back (rows_back (l.rows - l.counter) l.q l.table) (row_of (drop l.p l.table)) ≡ found_looking_back (rows_back l.rows l.p l.table) (row_of (drop l.p l.table)))
