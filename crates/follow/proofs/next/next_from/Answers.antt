-- `next_from` meets its contract: where the highest turn is 0, all are. Assumes nothing.
use Rattle.std.proofs.Common.{rules}
use mathlib.Core.Path.{sym, ◌∙◌}
use Rattle.follow.proofs.StepLaws.{label_told}
use Rattle.follow.proofs.next.next_from.Goals as goal

pub next_where-requires-clause-told : goal.next_where-requires-clause-told
next_where-requires-clause-told c = λ more x r known post. label_told _ _ _ _ _ c.requires.bounds (sym c.most_turn.ensures.answer ∙ c.if-most_turn-eq0.true) (search rules) (search rules)
