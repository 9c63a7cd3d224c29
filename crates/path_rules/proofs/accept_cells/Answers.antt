-- `accept_cells` meets its contract. Assumes nothing.
use mathlib.Core.Bool.{false}
use borrow.Author.Rules.{rules}
use borrow.Author.Tests.{tests}
use Rattle.path_rules.specs.Rules.{accept_cell}
use Rattle.path_rules.proofs.Fill.{from_fn_is}
use Rattle.path_rules.proofs.accept_cells.Goals as goal

pub returns : goal.returns
returns c = record { answer = from_fn_is _ (accept_cell c.args.sets.now) _ _ 16 false (λ i y q b h. search (rules, tests)) c.from_fn.ensures.items }
