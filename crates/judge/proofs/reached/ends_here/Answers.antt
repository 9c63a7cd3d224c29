-- `ends_here` meets its contract. Assumes nothing.
use mathlib.Core.Path.{◌∙◌}
use Rattle.judge.proofs.WalkLaws.{end_no, end_yes}
use Rattle.judge.proofs.reached.ends_here.Goals as goal

pub returns-then-is_goal : goal.returns-then-is_goal
returns-then-is_goal c = record { answer = c.has_mark.ensures.answer ∙ end_yes c.args.block.now c.args.decls.now c.args.goal c.args.sought c.args.mark c.args.n _ c.is_goal.ensures.answer c.if-is_goal.true }

pub returns-else-is_goal : goal.returns-else-is_goal
returns-else-is_goal c = record { answer = c.if-is_goal.false ∙ end_no c.args.block.now c.args.decls.now c.args.goal c.args.sought c.args.mark c.args.n _ c.is_goal.ensures.answer c.if-is_goal.false }
