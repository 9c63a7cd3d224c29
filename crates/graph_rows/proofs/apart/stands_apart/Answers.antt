use mathlib.Core.Path.{sym, ◌∙◌}
use Rattle.graph_rows.proofs.LookBackLaws.{repeats_quick}
use Rattle.graph_rows.proofs.apart.stands_apart.Goals as goal

pub returns-then-edge_ascends : goal.returns-then-edge_ascends
returns-then-edge_ascends c = record { answer = let ascends = sym c.edge_ascends.ensures.answer ∙ c.if-edge_ascends.true in rw (ascends, ← repeats_quick _ _ c.requires.ascended ascends, ← c.repeats.ensures.answer) }

pub returns-else-edge_ascends : goal.returns-else-edge_ascends
returns-else-edge_ascends c = record { answer = rw (← c.edge_ascends.ensures.answer, c.if-edge_ascends.false) }
