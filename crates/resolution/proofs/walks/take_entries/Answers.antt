-- `take_entries` meets its contract. Assumes nothing.
use mathlib.Core.Path.{◌∙◌}
use native.Mathlib.Omega.{arith}
use Rattle.resolution.proofs.Walked.{entries_walked}
use Rattle.resolution.proofs.Asks.{start_small, entries_worth, not_place}
use Rattle.resolution.proofs.walks.take_entries.Goals as goal

pub walk-requires : goal.walk-requires
walk-requires c = record { bounds = c.requires.ready.made.bounds; start = start_small c.args.table.now c.args.block.now c.args.ask.now c.requires.ready; live = c.requires.ready.live; table = omega (arith, c.requires.ready.size); worth = rw (c.ask_goal.ensures.answer, c.accept_set.ensures.answer) (entries_worth c.args.table.now c.args.block.now c.args.ask.now c.requires.ready); room = λ e. not_place e }

pub returns : goal.returns
returns c = record { taken = c.walk.ensures.walked ∙ rw (c.ask_goal.ensures.answer, c.accept_set.ensures.answer) (entries_walked c.args.table.now c.args.block.now c.args.ask.now c.requires.ready c.args.bounds _) }
