use Prim.Native.Nat.{ℕ, ◌<◌}
use mathlib.Core.Path.{◌≡◌}
use mathlib.Core.Bool.{true, false}
use Rattle.block.specs.Block.{pair_flag}
use Rattle.search.specs.Conditions.{Known}
use Rattle.search.proofs.CutEnds.{behind}
use Rattle.search.proofs.ends.learn.Given as goal

abbrev pub invariant-loop-a : goal.invariant-loop-a
invariant-loop-a l =
    Known l.block l.goal l.n l.out × ((k : ℕ) → k < l.a → pair_flag l.block k l.c ≡ true → behind l.block l.goal l.n k ≡ false)
