-- `found_by` meets its contract: the scopes tell where the walk was broken off, and else what it
-- noted. Assumes nothing.
use mathlib.Core.Path.{sym, ap, ◌∙◌}
use Rattle.resolution.specs.Asked.{found_meaning}
use Rattle.resolution.proofs.Noted.{seen_found, tally_found}
use Rattle.resolution.proofs.found.found_by.Goals as goal

pub returns-in-None : goal.returns-in-None
unfolding found_meaning seen_found
returns-in-None c = record { answer = sym (ap seen_found c.in-None.is) ∙ tally_found c.args.table.now c.args.block.now c.args.ask.now c.requires.ready c.args.bounds c.args.tally c.requires.tallied (sym c.is_broken.ensures.broken ∙ c.if-is_broken.false) }

pub returns-in-One : goal.returns-in-One
unfolding found_meaning seen_found
returns-in-One c = record { answer = sym (ap seen_found c.in-One.is) ∙ tally_found c.args.table.now c.args.block.now c.args.ask.now c.requires.ready c.args.bounds c.args.tally c.requires.tallied (sym c.is_broken.ensures.broken ∙ c.if-is_broken.false) }

pub returns-in-Several : goal.returns-in-Several
unfolding found_meaning seen_found
returns-in-Several c = record { answer = sym (ap seen_found c.in-Several.is) ∙ tally_found c.args.table.now c.args.block.now c.args.ask.now c.requires.ready c.args.bounds c.args.tally c.requires.tallied (sym c.is_broken.ensures.broken ∙ c.if-is_broken.false) }
