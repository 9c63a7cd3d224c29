-- `awaits_of` meets its contract. Assumes nothing.
use native.Mathlib.Omega.{arith}
use borrow.Author.Tests.{tests}
use borrow.Author.Rules.{rules}
use Rattle.resolution.proofs.Answers.{awaits_none, awaits_is}
use Rattle.resolution.proofs.Asks.{start_small, away_asked}
use Rattle.resolution.proofs.awaits.awaits_of.Goals as goal

pub part-opens-requires : goal.part-opens-requires
part-opens-requires c = record { made = c.requires.ready.made; section = omega arith }

pub returns-then-is_empty : goal.returns-then-is_empty
returns-then-is_empty c = record { answer = awaits_none c.args.table.now c.args.block.now c.args.ask.now c.requires.ready _ c.part-opens.ensures.answer (search (rules, tests)) }

pub away_from-away-requires : goal.away_from-away-requires
away_from-away-requires c = record { bounds = c.requires.ready.made.bounds; scope = rw c.ask_start-start.ensures.answer (start_small c.args.table.now c.args.block.now c.args.ask.now c.requires.ready) }

pub first_awaited-requires : goal.first_awaited-requires
first_awaited-requires c = record { ready = c.requires.ready; table = omega arith; away = away_asked c.args.block.now c.args.ask.now _ _ _ c.ask_goal-goal.ensures.answer c.ask_start-start.ensures.answer c.away_from-away.ensures.away }

pub returns : goal.returns
returns c = record { answer = awaits_is c.args.table.now c.args.block.now c.args.ask.now c.requires.ready _ c.part-opens.ensures.answer _ c.first_awaited.ensures.answer }
