-- `is_settled` meets its contract. Assumes nothing.
use mathlib.Core.Path.{◌∙◌}
use borrow.Author.Rules.{rules}
use Rattle.accepting.proofs.OpenLaws.{settled_is}
use Rattle.accepting.proofs.opens.is_settled.Goals as goal

pub returns : goal.returns
returns c = record { answer = search rules ∙ settled_is c.args.table.now c.args.block.now c.args.ask.now c.requires.ready _ c.awaits_of.ensures.answer }
