use Prim.Native.Nat.{◌-◌, ◌≤◌}
use mathlib.Core.Path.{◌≡◌}
use lib.ListN.{drop}
use Rattle.text_field.specs.Writing.{buf}
use Rattle.graph_rows.specs.Admission.{nothing}
use Rattle.graph_rows.specs.Way.{through_sections}
use Rattle.graph_rows.specs.Tested.{stage_from}
use Rattle.graph_rows.specs.Table.{sofar_at}
use Rattle.graph_rows.specs.Counting.{Placed, room_before}
use Rattle.graph_file.specs.File.{writing}
use Rattle.graph_file.specs.Writer.{Passes, pour}
use Rattle.graph_file.proofs.writer.put_sections.Given as goal

abbrev pub invariant-loop-k : goal.invariant-loop-k
invariant-loop-k l =
    (l.to.out.ghost_name ≡ l.initial.to.out.ghost_name)
    × Placed l.k l.r.cells l.r.counts
    × (l.r.cells ≤ room_before l.k)
    × Passes (through_sections (writing l.form) (9 - l.k) l.k (stage_from (sofar_at l.table l.r.cells l.r.counts) (drop l.r.cells l.table)))
    × (pour (buf l.to) (through_sections (writing l.form) (9 - l.k) l.k (stage_from (sofar_at l.table l.r.cells l.r.counts) (drop l.r.cells l.table)))
    ≡ pour (buf l.initial.to) (through_sections (writing l.form) 9 0 (stage_from nothing (drop 1 l.table))))
