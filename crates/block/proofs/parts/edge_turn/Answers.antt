-- `edge_turn` meets its contract. Assumes nothing.
use mathlib.Core.Path.{refl}
use Rattle.block.specs.Block.{turn_of}
use Rattle.block.proofs.parts.edge_turn.Goals as goal

pub returns : goal.returns
unfolding turn_of
returns c = record { answer = refl }
