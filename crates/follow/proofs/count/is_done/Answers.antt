-- `is_done` meets its contract: by the flag, the count and the declarations seen. Assumes nothing.
use mathlib.Core.Path.{sym, ◌∙◌}
use borrow.Author.Tests.{le-leb}
use Rattle.follow.proofs.TakeLaws.{done_later, done_most, done_seen}
use Rattle.follow.proofs.count.is_done.Goals as goal

pub returns-then-b-tally : goal.returns-then-b-tally
returns-then-b-tally c = record { done = le-leb c.args.b.most c.args.tally.entries c.if-b-tally.true ∙ sym (done_most c.args.b c.args.tally c.if-tally.true c.if-b-tally.true) }

pub returns-else-b-tally : goal.returns-else-b-tally
returns-else-b-tally c = record { done = c.is_several.ensures.answer ∙ sym (done_seen c.args.b c.args.tally c.if-tally.true c.if-b-tally.false) }

pub returns-else-tally : goal.returns-else-tally
returns-else-tally c = record { done = c.if-tally.false ∙ sym (done_later c.args.b c.args.tally c.if-tally.false) }
