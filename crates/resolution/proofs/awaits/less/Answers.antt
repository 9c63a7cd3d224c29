-- `less` meets its contract. Assumes nothing.
use Rattle.block.proofs.SetLaws.{states_less}
use Rattle.resolution.proofs.awaits.less.Goals as goal

pub returns : goal.returns
returns c = record { answer = λ q. states_less c.args.a c.args.b q }
