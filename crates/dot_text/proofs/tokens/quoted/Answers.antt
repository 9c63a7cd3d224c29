use mathlib.Core.Path.{ap, ◌∙◌}
use Rattle.dot_text.specs.Reading.{quoted_here, quoted_next}
use Rattle.dot_text.proofs.tokens.quoted.Goals as goal

pub returns : goal.returns
unfolding quoted_next
returns c = record { answer = c.quoted_at.ensures.answer ∙ ap quoted_here c.past_blanks.ensures.rest }
