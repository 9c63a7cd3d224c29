-- `hop_size` meets its contract: a scope has two digits at most. Assumes nothing.
use Rattle.text_field.proofs.NumberLaws.{length_below}
use native.Mathlib.Omega.{arith}
use Prim.Native.Nat.{ℕ, ◌+◌}
use mathlib.Core.Path.{ap, ◌∙◌}
use lib.ListN.{length}
use Rattle.text_field.specs.Number.{number_text}
use Rattle.follow.proofs.rows.hop_size.Goals as goal

pub overflow_add-result : goal.overflow_add-result
overflow_add-result c = omega (arith, length_below 1 c.edge_scope.result (omega (arith, c.edge_scope.ensures.answer)))

pub returns : goal.returns
returns c = record { bytes = ap (λ (n : ℕ). 1 + n) (c.number_size.ensures.digits ∙ ap (λ (s : ℕ). length (number_text s)) c.edge_scope.ensures.answer) }
