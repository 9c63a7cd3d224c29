use mathlib.Core.Path.{◌≡◌}
use Prim.Native.Nat.{◌+◌, ◌≤◌}
use lib.ListN.{length}
use Rattle.text_field.specs.Number.{number_text}
use Rattle.text_field.proofs.number_len.Given as goal

abbrev pub invariant-loop-x : goal.invariant-loop-x
invariant-loop-x l = (l.len + length (number_text l.x) ≡ 1 + length (number_text l.initial.x)) × (l.len + l.x ≤ l.initial.x + 1)

abbrev pub decreases-loop-x : goal.decreases-loop-x
decreases-loop-x l = l.x
