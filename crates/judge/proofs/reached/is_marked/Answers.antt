-- `is_marked` meets its contract. Assumes nothing.
use mathlib.Core.Path.{sym, ◌∙◌}
use Rattle.judge.proofs.MarkLaws.{mark_apart, mark_left}
use Rattle.judge.proofs.reached.is_marked.Goals as goal

pub returns-then-declares : goal.returns-then-declares
returns-then-declares c = record { answer = mark_left c.args.sought c.args.mark c.args.s c.args.d (sym c.declares.ensures.answer ∙ c.if-declares.true) }

pub returns-else-declares : goal.returns-else-declares
returns-else-declares c = record { answer = c.if-declares.false ∙ mark_apart c.args.sought c.args.mark c.args.s c.args.d (sym c.declares.ensures.answer ∙ c.if-declares.false) }
