-- `is_decisive` meets its contract: the pair is open, and followed. Assumes nothing.
use native.Mathlib.Omega.{arith}
use Rattle.resolution.proofs.Asks.{start_small, away_asked}
use Rattle.accepting.proofs.OpenLaws.{not_open, is_followed}
use Rattle.accepting.proofs.opens.is_decisive.Goals as goal

pub returns-then-not-is_open : goal.returns-then-not-is_open
returns-then-not-is_open c = record { answer = not_open c.args.table.now c.args.block.now c.args.ask.now c.requires.ready c.args.at c.args.end _ c.part.ensures.answer _ c.is_open.ensures.answer c.if-not-is_open.true }

pub away_from-away-requires : goal.away_from-away-requires
away_from-away-requires c = record { bounds = c.requires.ready.made.bounds; scope = rw c.ask_start-start.ensures.answer (start_small c.args.table.now c.args.block.now c.args.ask.now c.requires.ready) }

pub pair_followed-requires : goal.pair_followed-requires
pair_followed-requires c = record { ready = c.requires.ready; table = omega arith; away = away_asked c.args.block.now c.args.ask.now _ _ _ c.ask_goal-goal.ensures.answer c.ask_start-start.ensures.answer c.away_from-away.ensures.away }

pub returns : goal.returns
returns c = record { answer = is_followed c.args.table.now c.args.block.now c.args.ask.now c.requires.ready c.args.at c.args.end _ c.part.ensures.answer _ c.is_open.ensures.answer c.if-not-is_open.false _ c.pair_followed.ensures.answer }
