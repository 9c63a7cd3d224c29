use mathlib.Core.Path.{◌≡◌}
use Rattle.std.specs.Slice.Iter.{chunks_exact_rest, chunks_exact_size}
use Rattle.graph_table.specs.Sections.{rows_of}
use Rattle.accepting.specs.Steps.{has_open}
use Rattle.accepting.proofs.opens.is_open.Given as goal

abbrev pub invariant-loop-row : goal.invariant-loop-row
invariant-loop-row l =
    (chunks_exact_size l.row-iterator ≡ 6)
    × (has_open l.at l.end (rows_of (chunks_exact_rest l.row-iterator)) ≡ has_open l.at l.end (rows_of l.opens))
