-- `first_scopes` meets its contract. Assumes nothing.
use Rattle.beginnings.proofs.Start.{scopes_first}
use Rattle.beginnings.proofs.whole.first_scopes.Goals as goal

pub returns : goal.returns
returns c = record { answer = λ t. scopes_first c.args.n t c.requires.few }
