-- `put_heading` meets its contract. Assumes nothing.
use borrow.Author.Rules.{rules}
use Rattle.resolution.proofs.Heads.{head_is}
use Rattle.resolution.proofs.lists.put_heading.Goals as goal

pub returns : goal.returns
returns c = record { written = head_is c.args.table.now c.args.block.now c.requires.ready.asked.read c.requires.ready.made c.args.ask.now _ _ _ _ c.requires.found c.awaits_of-a.ensures.answer (rw (← c.form_of.ensures.answer) (search rules)) }
