-- `label_end` meets its contract. Assumes nothing.
use Rattle.comparison.proofs.EndLaws.{label_past, label_in_lem}
use Rattle.comparison.proofs.order.label_end.Goals as goal

pub returns-then-l-lt-LABELS : goal.returns-then-l-lt-LABELS
returns-then-l-lt-LABELS c = record { answer = label_in_lem c.args.l c.if-l-lt-LABELS.true }

pub returns-else-l-lt-LABELS : goal.returns-else-l-lt-LABELS
returns-else-l-lt-LABELS c = record { answer = label_past c.args.l c.if-l-lt-LABELS.false }
