-- `is_followed` meets its contract: the walk that counts one place. Assumes nothing.
use mathlib.Core.Path.{refl}
use native.Mathlib.Omega.{arith}
use Rattle.block.specs.Ask.{ask_goal}
use Rattle.follow.proofs.WalkLaws.{start_free, followed_is}
use Rattle.follow.proofs.is_followed.Goals as goal

pub taken-free-requires : goal.taken-free-requires
taken-free-requires c = record { scope = omega (arith, c.ask_start.ensures.answer, c.requires.start) }

pub walk-t-requires : goal.walk-t-requires
walk-t-requires c = let free = start_free c.args.ask.now c.ask_start.result c.taken-free.result c.ask_start.ensures.answer c.taken-free.ensures.answer in
    let worth = rw (c.ask_goal.ensures.answer, free) at (c.live_table-worth.ensures.closed (ask_goal c.args.ask.now)) in record { bounds = c.requires.bounds; start = c.requires.start; live = c.requires.live; table = omega arith; worth = worth; room = λ e. refl }

pub returns : goal.returns
returns c = record { answer = followed_is _ _ _ _ _ _ _ _ c.walk-t.ensures.walked }
