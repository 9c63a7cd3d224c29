use Prim.Native.Nat.{◌+◌}
use lib.ListN.{length}
use Rattle.graph_table.specs.Sections.{leading}
use Rattle.graph_table.proofs.Leading.{Looking, passed}
use Rattle.board.proofs.Fill.{Filled}
use Rattle.board.proofs.sections.places.Given as goal

abbrev pub invariant-loop-k : goal.invariant-loop-k
invariant-loop-k g l = record {
  filled : Filled (λ k. l.from + leading l.column k l.rows) (length l.initial.place-items) l.k l.place-items;
  looking : Looking l.column l.rows (passed l.column l.rows) l.k l.p;
}
