-- `is_end` meets its contract. Assumes nothing.
use Rattle.resolution.proofs.Asks.{start_small}
use Rattle.resolution.proofs.Ends.{end_undeclared, end_walked}
use Rattle.resolution.proofs.found.is_end.Goals as goal

pub returns-then-not-has : goal.returns-then-not-has
returns-then-not-has c = record { answer = end_undeclared c.args.table.now c.args.block.now c.args.ask.now c.requires.ready c.args.s _ c.ask_goal.ensures.answer _ c.has.ensures.answer (c.if-not-has.true) }

pub is_followed-requires : goal.is_followed-requires
is_followed-requires c = record { bounds = c.requires.ready.made.bounds; start = start_small c.args.table.now c.args.block.now c.args.ask.now c.requires.ready; live = c.requires.ready.live }

pub returns : goal.returns
returns c = record { answer = end_walked c.args.table.now c.args.block.now c.args.ask.now c.requires.ready c.args.s _ c.ask_goal.ensures.answer _ c.has.ensures.answer c.requires.scope (c.if-not-has.false) _ c.single.ensures.answer _ c.usable_set.ensures.answer _ c.is_followed.ensures.answer }
