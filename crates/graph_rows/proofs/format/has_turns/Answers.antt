use Rattle.graph_rows.proofs.ColumnLaws.{turns_told}
use Rattle.graph_rows.proofs.format.has_turns.Goals as goal

pub returns : goal.returns
returns c = record { answer = turns_told _ }
