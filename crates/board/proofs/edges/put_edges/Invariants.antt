use Prim.Native.Nat.{ℕ, ◌≤◌}
use mathlib.Core.Path.{◌≡◌}
use lib.ListN.{drop}
use Rattle.graph_table.specs.Rows.{row_hops}
use Rattle.board.proofs.EdgeLaws.{Upto, Most}
use Rattle.board.proofs.edges.put_edges.Given as goal

abbrev pub invariant-loop-s : goal.invariant-loop-s
invariant-loop-s l = record {
  upto : Upto l.rows l.initial.block l.block l.s l.put.edges;
  on : (u : ℕ) → l.s ≤ u → row_hops l.rows u ≡ row_hops (drop l.put.place l.rows) u;
  most : Most l.block l.put.edges l.put.top;
}
