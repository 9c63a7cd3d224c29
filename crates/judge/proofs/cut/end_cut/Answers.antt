-- `end_cut` meets its contract: nothing is known at first, and what is learnt of the end tells.
-- Assumes nothing.
use Rattle.search.proofs.CutEnds.{known_none}
use Rattle.judge.proofs.CutLaws.{end_told}
use Rattle.judge.proofs.cut.end_cut.Goals as goal

pub learn-requires : goal.learn-requires
learn-requires c = record { bounds = c.requires.ready.bounds; table = c.requires.ready.table; inside = c.requires.ready.inside; live = c.requires.ready.closed; known = known_none c.args.block.now c.args.goal c.args.n }

pub returns : goal.returns
returns c = record { answer = end_told c.args.block.now c.args.goal c.args.n _ _ c.learn.ensures.cut }
