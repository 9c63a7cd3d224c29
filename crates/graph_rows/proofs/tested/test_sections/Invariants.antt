use Prim.Native.Nat.{◌-◌, ◌≤◌}
use mathlib.Core.Path.{◌≡◌}
use lib.ListN.{drop}
use Rattle.graph_rows.specs.Admission.{nothing}
use Rattle.graph_rows.specs.Way.{through_sections}
use Rattle.graph_rows.specs.Tested.{testing, stage_from}
use Rattle.graph_rows.specs.Table.{sofar_at}
use Rattle.graph_rows.specs.Counting.{Placed, room_before}
use Rattle.graph_rows.proofs.tested.test_sections.Given as goal

abbrev pub invariant-loop-k : goal.invariant-loop-k
invariant-loop-k l = Placed l.k l.r.cells l.r.counts × (l.r.cells ≤ room_before l.k) × (through_sections (testing l.form) (9 - l.k) l.k (stage_from (sofar_at l.table l.r.cells l.r.counts) (drop l.r.cells l.table)) ≡ through_sections (testing l.form) 9 0 (stage_from nothing (drop 1 l.table)))
