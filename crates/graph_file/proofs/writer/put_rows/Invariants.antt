use Prim.Native.Nat.{suc, ◌+◌, ◌-◌, ◌*◌, ◌≤◌}
use mathlib.Core.Path.{◌≡◌}
use lib.ListN.{drop}
use Rattle.text_field.specs.Writing.{buf}
use Rattle.graph_rows.specs.Format.{section_at}
use Rattle.graph_rows.specs.Way.{through_rows}
use Rattle.graph_rows.specs.Tested.{stage_from}
use Rattle.graph_rows.specs.Table.{sofar_at}
use Rattle.graph_rows.specs.Counting.{Placed}
use Rattle.graph_file.specs.File.{writing}
use Rattle.graph_file.specs.Writer.{Passes, pour}
use Rattle.graph_file.proofs.writer.put_rows.Given as goal

abbrev pub invariant-loop-s : goal.invariant-loop-s
invariant-loop-s l =
    (l.to.out.ghost_name ≡ l.initial.to.out.ghost_name)
    × Placed l.s.section l.r.cells l.r.counts
    × (l.r.counts.rows ≤ (section_at l.s.section).most)
    × (l.r.cells ≡ l.initial.r.cells + 6 * l.r.counts.rows)
    × Passes (through_rows (writing l.s.form) (suc (section_at l.s.section).most - l.r.counts.rows) l.s.section (stage_from (sofar_at l.table l.r.cells l.r.counts) (drop l.r.cells l.table)))
    × (pour (buf l.to) (through_rows (writing l.s.form) (suc (section_at l.s.section).most - l.r.counts.rows) l.s.section (stage_from (sofar_at l.table l.r.cells l.r.counts) (drop l.r.cells l.table)))
    ≡ pour (buf l.initial.to) (through_rows (writing l.s.form) (suc (section_at l.s.section).most) l.s.section (stage_from (sofar_at l.table l.initial.r.cells l.initial.r.counts) (drop l.initial.r.cells l.table))))

abbrev pub decreases-loop-s : goal.decreases-loop-s
decreases-loop-s l = suc (section_at l.s.section).most - l.r.counts.rows
