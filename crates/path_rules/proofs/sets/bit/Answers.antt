-- `bit` meets its contract. Assumes nothing.
use Rattle.path_rules.proofs.SetLaws.{one_bit}
use Rattle.path_rules.proofs.sets.bit.Goals as goal

pub returns : goal.returns
returns c = record { answer = one_bit _ c.requires.number }
