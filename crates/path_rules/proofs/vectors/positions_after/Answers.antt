-- `positions_after` meets its contract. Assumes nothing.
use borrow.Author.Rules.{rules}
use borrow.Author.Tests.{tests}
use Rattle.path_rules.specs.Vectors.{onward, onward_cell}
use Rattle.path_rules.proofs.vectors.positions_after.Goals as goal

pub returns : goal.returns
unfolding onward onward_cell
returns c = record { answer = c.gather.ensures.answer (onward_cell c.args.positions.now.after c.args.positions.now.labels c.args.s c.args.l) (λ p r b h. search (rules, tests)) }
