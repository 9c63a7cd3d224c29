-- `walk` meets its contract: both tables are closed for the scopes that are free, so the walk from
-- the start is the whole. Assumes nothing.
use mathlib.Core.Path.{sym, ◌∙◌}
use native.Mathlib.Omega.{arith}
use Rattle.follow.proofs.WalkLaws.{start_free, walked_over, walked_none, walked_all}
use Rattle.follow.proofs.walk.Goals as goal

pub returns-then-scopes-gt64 : goal.returns-then-scopes-gt64
returns-then-scopes-gt64 c = record { walked = walked_over _ _ _ _ _ (rw c.scope_count-scopes.ensures.answer at c.if-scopes-gt64.true) }

pub returns-then-scopes-eq0 : goal.returns-then-scopes-eq0
returns-then-scopes-eq0 c = record { walked = walked_none _ _ _ _ _ (sym c.scope_count-scopes.ensures.answer ∙ c.if-scopes-eq0.true) }

pub taken-requires : goal.taken-requires
taken-requires c = record { scope = omega (arith, c.ask_start-start.ensures.answer, c.requires.start) }

pub follow_at-requires : goal.follow_at-requires
follow_at-requires c = let free = start_free c.args.ask.now c.ask_start-start.result c.taken.result c.ask_start-start.ensures.answer c.taken.ensures.answer in record { bounds = c.requires.bounds; live = rw free c.requires.live; table = c.requires.table; worth = rw free c.requires.worth; inside = record { scope = omega (arith, c.ask_start-start.ensures.answer, c.requires.start); state = omega arith }; depth = omega (arith, c.if-scopes-gt64.false); room = c.requires.room }

pub returns : goal.returns
returns c = record {
  walked = c.follow_at.ensures.taken
      ∙ walked_all c.args.block.now c.args.table.now c.args.ask.now c.args.aim _ c.scope_count-scopes.result c.ask_start-start.result c.taken.result _ c.scope_count-scopes.ensures.answer (omega (arith, c.if-scopes-gt64.false)) c.if-scopes-eq0.false c.ask_start-start.ensures.answer c.taken.ensures.answer;
}
