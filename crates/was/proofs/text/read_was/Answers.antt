-- `read_was` meets its contract. Assumes nothing.
use mathlib.Core.Path.{sym, ap, ◌∙◌}
use Rattle.was.specs.Cells.{list_read}
use Rattle.was.specs.WasText.{was_line}
use Rattle.was.proofs.ReadingLaws.{begins_is}
use Rattle.was.proofs.ReadingTurns.{was_none, was_begins}
use Rattle.was.proofs.text.read_was.Goals as goal

pub returns-then-not-starts_with : goal.returns-then-not-starts_with
returns-then-not-starts_with c = record { answer = was_none c.args.n c.args.text.now (sym (begins_is was_line c.args.text.now) ∙ sym c.starts_with.ensures.value ∙ c.if-not-starts_with.true) }

pub returns : goal.returns
returns c = record { answer = c.read_numbers.ensures.answer ∙ ap list_read (was_begins c.args.n c.args.text.now (sym (begins_is was_line c.args.text.now) ∙ sym c.starts_with.ensures.value ∙ c.if-not-starts_with.false)) }
