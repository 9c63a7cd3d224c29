use mathlib.Core.Path.{◌≡◌}
use Rattle.std.specs.Slice.Iter.{chunks_exact_rest, chunks_exact_size}
use Rattle.graph_table.specs.Sections.{rows_of}
use Rattle.resolution.specs.Asked.{first_followed}
use Rattle.resolution.proofs.awaits.first_awaited.Given as goal

abbrev pub invariant-loop-row : goal.invariant-loop-row
invariant-loop-row l =
    (chunks_exact_size l.row-iterator ≡ 6)
    × (first_followed l.block l.table l.ask (rows_of (chunks_exact_rest l.row-iterator)) ≡ first_followed l.block l.table l.ask (rows_of l.opens))
