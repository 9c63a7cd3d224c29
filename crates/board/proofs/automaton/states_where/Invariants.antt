use Prim.Native.Nat.{ℕ, ◌<◌}
use mathlib.Core.Path.{◌≡◌}
use mathlib.Core.Bool.{Bool}
use Rattle.board.proofs.Sets.{Gathered}
use Rattle.board.proofs.automaton.states_where.Given as goal

abbrev pub invariant-loop-q : goal.invariant-loop-q
invariant-loop-q g l = (f : ℕ → Bool) → ((q : ℕ) (r : Bool) → q < 16 → goal.F-post g l.test q r → r ≡ f q) → Gathered f l.q l.out
