-- `begin` meets its contract. Assumes nothing.
use mathlib.Core.Path.{refl}
use Rattle.judge.proofs.HopLaws.{begins_is}
use Rattle.judge.proofs.standing.begin.Goals as goal

pub returns : goal.returns
returns c = record { answer = begins_is c.args.block.now c.args.start _ _ c.scope_count.ensures.answer c.requires.scopes c.taken.ensures.answer refl refl refl }
