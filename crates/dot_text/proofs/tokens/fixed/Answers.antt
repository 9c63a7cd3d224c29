use mathlib.Core.Path.{ap, ◌∙◌}
use mathlib.Core.List.{List}
use Prim.Native.Nat.{ℕ}
use Rattle.dot_text.specs.Reading.{past_bytes, fixed_next}
use Rattle.dot_text.proofs.tokens.fixed.Goals as goal

pub returns : goal.returns
unfolding fixed_next
returns c = record { answer = c.past_bytes.ensures.answer ∙ ap (λ (z : List ℕ). past_bytes c.args.bytes.now z) c.past_blanks.ensures.rest }
