use Prim.Native.Nat.{◌-◌}
use mathlib.Core.Path.{◌≡◌}
use lib.ListN.{length, drop}
use Rattle.graph_rows.specs.Way.{through_some}
use Rattle.graph_file.specs.File.{reading}
use Rattle.graph_file.specs.Reader.{stage_at, SomeTaken}
use Rattle.graph_file.proofs.reader.read_some.Given as goal

abbrev pub invariant-loop-k : goal.invariant-loop-k
invariant-loop-k l =
    SomeTaken l.k l.text l.r
    × (length l.table ≡ length l.initial.table)
    × (through_some (reading l.form) (l.last - l.k) l.k (stage_at l.table l.r.cells l.r.counts (drop l.r.next l.text))
    ≡ through_some (reading l.form) (l.last - l.first) l.first (stage_at l.initial.table l.initial.r.cells l.initial.r.counts (drop l.initial.r.next l.text)))
