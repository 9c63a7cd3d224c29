use Prim.Native.Nat.{◌≤◌, max}
use mathlib.Core.Path.{◌≡◌}
use Rattle.block.specs.Block.{goes, edge_on, edge_to}
use Rattle.block.proofs.edges.edge_to.Given as goal

abbrev pub invariant-loop-p : goal.invariant-loop-p
invariant-loop-p l = record {
  passed : edge_to l.block l.s l.label l.to ≡ edge_on l.block (goes l.label l.to) l.s l.p;
  within : l.p ≤ max l.from l.end;
}
