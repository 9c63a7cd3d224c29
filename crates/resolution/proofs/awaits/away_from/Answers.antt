-- `away_from` meets its contract. Assumes nothing.
use mathlib.Core.Path.{sym, ◌∙◌}
use native.Mathlib.Omega.{arith}
use Rattle.resolution.proofs.Unfollowed.{none_away}
use Rattle.resolution.proofs.awaits.away_from.Goals as goal

pub away_table-away-requires : goal.away_table-away-requires
away_table-away-requires c = record { bounds = c.requires.bounds; scope = c.requires.scope }

pub place-requires : goal.place-requires
place-requires c = record { table = omega arith; scope = c.requires.scope }

pub returns-then-place : goal.returns-then-place
returns-then-place c = record { away = none_away c.args.block.now c.args.goal c.args.start }

pub returns : goal.returns
returns c = record { away = record { closed = c.away_table-away.ensures.away; begins = sym c.place.ensures.answer ∙ c.if-place.false } }
