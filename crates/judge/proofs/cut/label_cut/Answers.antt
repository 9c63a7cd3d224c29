-- `label_cut` meets its contract. Assumes nothing.
use mathlib.Core.Path.{sym, ◌∙◌}
use Rattle.judge.proofs.CutLaws.{label_not, label_end_lem}
use Rattle.judge.proofs.cut.label_cut.Goals as goal

pub returns-then-label-ge-LABELS : goal.returns-then-label-ge-LABELS
returns-then-label-ge-LABELS c = record { answer = sym (label_not c.args.block.now c.args.goal c.args.n c.args.label c.if-label-ge-LABELS.true) }

pub returns : goal.returns
returns c = record { answer = c.end_cut.ensures.answer ∙ label_end_lem c.args.block.now c.args.goal c.args.n c.args.label }
