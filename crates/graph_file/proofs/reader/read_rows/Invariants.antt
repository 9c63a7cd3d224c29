use Prim.Native.Nat.{suc, ◌+◌, ◌-◌, ◌*◌, ◌≤◌}
use mathlib.Core.Path.{◌≡◌}
use lib.ListN.{length, drop}
use Rattle.graph_rows.specs.Format.{section_at}
use Rattle.graph_rows.specs.Way.{through_rows}
use Rattle.graph_rows.specs.Counting.{Placed}
use Rattle.graph_rows.specs.LookBack.{SortedSofar}
use Rattle.graph_rows.specs.Table.{rows_back}
use Rattle.graph_file.specs.File.{reading}
use Rattle.graph_file.specs.NameSought.{line_count}
use Rattle.graph_file.specs.Reader.{stage_at}
use Rattle.graph_file.proofs.reader.read_rows.Given as goal

abbrev pub invariant-loop-s : goal.invariant-loop-s
invariant-loop-s l =
    Placed l.s.section l.r.cells l.r.counts
    × (l.r.counts.rows ≤ (section_at l.s.section).most)
    × (l.r.cells ≡ l.initial.r.cells + 6 * l.r.counts.rows)
    × (length l.table ≡ length l.initial.table)
    × (through_rows (reading l.s.form) (suc (section_at l.s.section).most - l.r.counts.rows) l.s.section (stage_at l.table l.r.cells l.r.counts (drop l.r.next l.text))
    ≡ through_rows (reading l.s.form) (suc (section_at l.s.section).most) l.s.section (stage_at l.initial.table l.initial.r.cells l.initial.r.counts (drop l.initial.r.next l.text)))
    × (l.r.counts.rows + line_count (drop l.r.next l.text) ≤ line_count (drop l.initial.r.next l.text))
    × SortedSofar l.s.section (rows_back l.r.counts.rows l.r.cells l.table)

abbrev pub decreases-loop-s : goal.decreases-loop-s
decreases-loop-s l = suc (section_at l.s.section).most - l.r.counts.rows
