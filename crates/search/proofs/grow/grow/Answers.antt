-- `grow` meets its contract: what is asked for is held at first, and kept. Assumes nothing.
use Rattle.search.proofs.grow.grow.Goals as goal

pub returns : goal.returns
returns c = record { held = λ s q h. c.spread.ensures.kept.flags s q (c.seed-hot.ensures.held s q h) }
