use mathlib.Core.Path.{◌∙◌}
use borrow.Author.Tests.{le-ltb}
use Rattle.graph_file.proofs.ReadLaws.{follows_none, follows_byte}
use Rattle.graph_file.proofs.reader.row_starts.Goals as goal

pub returns-then-at-text : goal.returns-then-at-text
returns-then-at-text c = record { answer = rw c.is_lower.ensures.answer (follows_byte _ _ c.if-at-text.true) }

pub returns-else-at-text : goal.returns-else-at-text
returns-else-at-text c = record { answer = le-ltb _ _ c.if-at-text.false ∙ follows_none _ _ c.if-at-text.false }
