-- `note` meets its contract: by the case, and where there is one already by its scope and mark.
-- Assumes nothing.
use mathlib.Core.Path.{sym, ap, ◌∙◌}
use Rattle.follow.specs.declared.Seen.{Seen}
use Rattle.follow.specs.Tally.{noted}
use Rattle.follow.proofs.TakeLaws.{noted_same, noted_scope, noted_mark}
use Rattle.follow.proofs.count.note.Goals as goal

pub returns-in-None : goal.returns-in-None
unfolding noted
returns-in-None c = record { noted = sym (ap (λ (s : Seen). noted s c.args.at c.args.mark) c.in-None.is) }

pub returns-in-One : goal.returns-in-One
returns-in-One c = record { noted = sym (ap (λ (s : Seen). noted s c.args.at c.args.mark) c.in-One.is ∙ noted_same _ _ _ _ c.if-a-at.true c.if-m-mark.true) }

pub returns-in_default : goal.returns-in_default
returns-in_default c = record { noted = sym (ap (λ (s : Seen). noted s c.args.at c.args.mark) c.in-One.is ∙ noted_mark _ _ _ _ c.if-m-mark.false) }

pub returns-in_default-2 : goal.returns-in_default-2
returns-in_default-2 c = record { noted = sym (ap (λ (s : Seen). noted s c.args.at c.args.mark) c.in-One.is ∙ noted_scope _ _ _ _ c.if-a-at.false) }

pub returns-in_default-3 : goal.returns-in_default-3
unfolding noted
returns-in_default-3 c = record { noted = sym (ap (λ (s : Seen). noted s c.args.at c.args.mark) c.in_default.is) }
