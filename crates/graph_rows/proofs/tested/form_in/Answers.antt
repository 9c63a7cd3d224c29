use Rattle.graph_rows.specs.Tested.{form_in}
use borrow.Author.Rules.{rules}
use Rattle.graph_rows.proofs.tested.form_in.Goals as goal

pub returns : goal.returns
unfolding form_in
returns c = record { answer = search rules }
