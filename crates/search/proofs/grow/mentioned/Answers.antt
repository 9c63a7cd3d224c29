-- `mentioned` is safe and ends. Assumes nothing.
use Rattle.search.proofs.grow.mentioned.Goals as goal

pub loop-label-init : goal.loop-label-init
loop-label-init c = tt

pub loop-label-preserved : goal.loop-label-preserved
loop-label-preserved c = tt

pub returns : goal.returns
returns c = tt
