use mathlib.Core.Path.{refl}
use Rattle.graph_rows.specs.Counting.{counts_begun}
use Rattle.graph_rows.proofs.tested.counts_begun.Goals as goal

pub returns : goal.returns
unfolding counts_begun
returns c = record { answer = refl }
