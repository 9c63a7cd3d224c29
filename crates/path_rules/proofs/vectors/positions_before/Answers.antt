-- `positions_before` meets its contract. Assumes nothing.
use borrow.Author.Rules.{rules}
use borrow.Author.Tests.{tests}
use Rattle.path_rules.specs.Vectors.{before, before_cell}
use Rattle.path_rules.proofs.vectors.positions_before.Goals as goal

pub returns : goal.returns
unfolding before before_cell
returns c = record { answer = c.gather.ensures.answer (before_cell c.args.positions.now.after c.args.positions.now.labels c.args.v c.args.l) (λ p r b h. search (rules, tests)) }
