-- `ask_from` meets its contract. Assumes nothing.
use native.Mathlib.Omega.{arith}
use Rattle.resolution.proofs.Asks.{asked_small, ask_made}
use Rattle.resolution.proofs.ask.ask_from.Goals as goal

pub taken-requires : goal.taken-requires
taken-requires c = record { scope = asked_small c.args.table.now _ c.requires.asked }

pub goal_table-requires : goal.goal_table-requires
goal_table-requires c = record { bounds = c.requires.made.bounds; scope = asked_small c.args.table.now _ c.requires.asked }

pub returns : goal.returns
returns c = record { asking = ask_made c.goal_table.result c.with_room-ask.result c.args.q c.args.goal (omega arith) c.with_room-ask.ensures.same c.args.table.now c.args.block.now c.requires.made c.requires.asked c.requires.goal c.taken.result c.taken.ensures.answer c.goal_table.ensures.live }
