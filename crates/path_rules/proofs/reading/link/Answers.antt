-- `link` meets its contract. Assumes nothing.
use borrow.Author.Rules.{rules}
use borrow.Author.Tests.{tests}
use Rattle.path_rules.specs.Parts.{link_cell, linked}
use Rattle.path_rules.proofs.Fill.{from_fn_is}
use Rattle.path_rules.proofs.reading.link.Goals as goal

pub returns : goal.returns
unfolding linked
returns c = record { answer = from_fn_is _ (link_cell c.args.after.now c.args.lasts c.args.firsts) _ _ 10 0 (λ i y q b h. search (rules, tests)) c.from_fn.ensures.items }
