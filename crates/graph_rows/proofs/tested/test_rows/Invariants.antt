use Prim.Native.Nat.{suc, ◌+◌, ◌-◌, ◌*◌, ◌≤◌}
use mathlib.Core.Path.{◌≡◌}
use lib.ListN.{drop}
use Rattle.graph_rows.specs.Format.{section_at}
use Rattle.graph_rows.specs.LookBack.{SortedSofar}
use Rattle.graph_rows.specs.Way.{through_rows}
use Rattle.graph_rows.specs.Tested.{testing, stage_from}
use Rattle.graph_rows.specs.Table.{rows_back, sofar_at}
use Rattle.graph_rows.specs.Counting.{Placed}
use Rattle.graph_rows.proofs.tested.test_rows.Given as goal

abbrev pub invariant-loop-s : goal.invariant-loop-s
invariant-loop-s l = Placed l.s.section l.m l.d × (l.d.rows ≤ (section_at l.s.section).most) × (l.m ≡ l.p + 6 * l.d.rows) × (through_rows (testing l.s.form) (suc (section_at l.s.section).most - l.d.rows) l.s.section (stage_from (sofar_at l.table l.m l.d) (drop l.m l.table)) ≡ through_rows (testing l.s.form) (suc (section_at l.s.section).most) l.s.section (stage_from (sofar_at l.table l.p l.initial.d) (drop l.p l.table))) × SortedSofar l.s.section (rows_back l.d.rows l.m l.table)

abbrev pub decreases-loop-s : goal.decreases-loop-s
decreases-loop-s l = suc (section_at l.s.section).most - l.d.rows
