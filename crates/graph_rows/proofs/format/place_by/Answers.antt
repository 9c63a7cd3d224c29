use Rattle.graph_rows.proofs.ColumnLaws.{place_shown, place_hidden}
use Rattle.graph_rows.proofs.format.place_by.Goals as goal

pub returns-then-shown : goal.returns-then-shown
returns-then-shown c = record { answer = place_shown _ _ _ c.if-shown.true }

pub returns-else-shown : goal.returns-else-shown
returns-else-shown c = record { answer = place_hidden _ _ _ c.if-shown.false }
