use Rattle.graph_rows.proofs.AdmissionLaws.{letter_unlisted}
use Rattle.graph_rows.proofs.admission.unlisted.Goals as goal

pub returns : goal.returns
returns c = record { answer = rw c.label_place.ensures.answer (letter_unlisted c.args.x c.args.labels _) }
