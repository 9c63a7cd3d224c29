-- `count_on` meets its contract. Assumes nothing.
use native.Mathlib.Omega.{arith}
use Rattle.block.specs.Ask.{ask_goal}
use Rattle.follow.proofs.WalkLaws.{start_free}
use Rattle.beginnings.proofs.Taken.{enough_few}
use Rattle.beginnings.proofs.whole.count_on.Goals as goal

pub counted_few-few-requires : goal.counted_few-few-requires
counted_few-few-requires c = let free = start_free c.args.ask.now c.ask_start.result c.taken-free.result c.ask_start.ensures.answer c.taken-free.ensures.answer in
    let worth = rw (c.ask_goal.ensures.answer, c.hopes_of-hopes.ensures.answer, free) at (c.live_table-onward.ensures.closed (ask_goal c.args.ask.now)) in record { bounds = c.requires.bounds; start = omega (arith, c.requires.start, c.requires.scopes); scopes = c.requires.scopes; live = c.requires.live; table = omega arith; worth = worth; hopes = c.hopes_of-hopes.ensures.answer }

pub returns-then-few-lt-ENOUGH : goal.returns-then-few-lt-ENOUGH
returns-then-few-lt-ENOUGH c = record { count = enough_few _ _ c.if-few-lt-ENOUGH.true c.counted_few-few.ensures.few }

pub count_all-requires : goal.count_all-requires
count_all-requires c = let free = start_free c.args.ask.now c.ask_start.result c.taken-free.result c.ask_start.ensures.answer c.taken-free.ensures.answer in
    let worth = rw (c.ask_goal.ensures.answer, c.hopes_of-hopes.ensures.answer, free) at (c.live_table-onward.ensures.closed (ask_goal c.args.ask.now)) in record { bounds = c.requires.bounds; live = c.requires.live; start = c.requires.start; scopes = c.requires.scopes; inside = c.requires.inside; table = omega arith; worth = worth; hopes = c.hopes_of-hopes.ensures.answer }
