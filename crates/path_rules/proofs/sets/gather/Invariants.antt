use Rattle.path_rules.specs.Sets.{gather}
use mathlib.Core.Path.{◌≡◌}
use Prim.Native.Nat.{ℕ, ◌<◌}
use Rattle.path_rules.proofs.sets.gather.Given as goal

abbrev pub invariant-loop-p : goal.invariant-loop-p
invariant-loop-p g l = (f : ℕ → ℕ) → ((p v : ℕ) → p < 10 → goal.F-post g l.set_of p v → v ≡ f p) → l.all ≡ gather f l.p
