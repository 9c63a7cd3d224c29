use mathlib.Core.Path.{◌≡◌}
use Rattle.std.specs.Slice.Iter.{chunks_exact_rest, chunks_exact_size}
use Rattle.scope_graph.specs.Ends.{has_second}
use Rattle.board.specs.Marks.{marks_in}
use Rattle.graph_table.specs.Values.{packed}
use Rattle.resolution.proofs.Seconds.{second_after}
use Rattle.resolution.proofs.found.has_second.Given as goal

abbrev pub invariant-loop-row : goal.invariant-loop-row
invariant-loop-row l =
    (chunks_exact_size l.row-iterator ≡ 6)
    × (second_after l.one (marks_in (chunks_exact_rest l.row-iterator) l.s (packed l.name)) ≡ has_second (marks_in l.rows l.s (packed l.name)))
