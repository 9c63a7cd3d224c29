-- `is_uncut` meets its contract. Assumes nothing.
use mathlib.Core.Path.{sym, ◌∙◌}
use borrow.Author.Tests.{eqb-true}
use Rattle.block.specs.Ask.{ask_goal}
use Rattle.beginnings.proofs.UncutLaws.{uncut_nowhere, uncut_unordered}
use Rattle.beginnings.proofs.uncut.is_uncut.Goals as goal

pub returns-then-ask_goal-eq0 : goal.returns-then-ask_goal-eq0
returns-then-ask_goal-eq0 c = record { uncut = λ e. rw (sym c.ask_goal.ensures.answer ∙ c.if-ask_goal-eq0.true) (uncut_nowhere _) }

pub returns-else-most_turn-eq0 : goal.returns-else-most_turn-eq0
returns-else-most_turn-eq0 c = record { uncut = λ e. absurd (c.if-most_turn-eq0.false (eqb-true _ 0 e)) }

pub returns-then-most_turn-eq0 : goal.returns-then-most_turn-eq0
returns-then-most_turn-eq0 c = record { uncut = λ e. uncut_unordered c.args.block.now (ask_goal c.args.ask.now) c.requires.bounds (sym c.most_turn.ensures.answer ∙ c.if-most_turn-eq0.true) (c.is_unordered.ensures.none e) }
