-- `own_end` meets its contract: nothing is known at first, and a place that is not asked for is
-- passed over. Assumes nothing.
use mathlib.Core.Path.{sym, ◌∙◌}
use native.Mathlib.Omega.{arith}
use Rattle.search.proofs.CutEnds.{known_none}
use Rattle.follow.proofs.nodes.own_end.Goals as goal

pub returns-then-not-is_asked : goal.returns-then-not-is_asked
returns-then-not-is_asked c = record { known = known_none _ _ _; passed = rw (sym c.is_asked.ensures.answer ∙ c.if-not-is_asked.true) }

pub learn-requires : goal.learn-requires
learn-requires c = record { bounds = c.requires.bounds; table = omega arith; inside = c.requires.inside; live = rw c.ask_goal.ensures.answer c.requires.live; known = known_none _ _ _ }

pub returns : goal.returns
returns c = record { known = rw c.ask_goal.ensures.answer at c.learn.ensures.known; passed = rw (sym c.is_asked.ensures.answer ∙ c.if-not-is_asked.false) (rw c.ask_goal.ensures.answer at c.learn.ensures.cut) }
