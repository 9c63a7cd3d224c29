use Rattle.path_rules.specs.Walk.{walk_to}
use Rattle.std.specs.declared.option.Option.TheVariants.{Some}
use lib.ListN.{length}
use mathlib.Core.Path.{◌≡◌}
use Prim.Native.Nat.{◌≤◌}
use Rattle.path_rules.proofs.walk.walk_all.Given as goal

abbrev pub invariant-loop-k : goal.invariant-loop-k
invariant-loop-k l = record {
  walk : walk_to l.vs l.positions.after l.positions.labels l.start l.k ≡ Some l.w;
  states : l.w.states ≤ 16;
  sets : length l.w.sets ≡ 16;
}
