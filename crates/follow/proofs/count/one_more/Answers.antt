-- `one_more` meets its contract: by the test. Assumes nothing.
use Rattle.follow.proofs.TakeLaws.{more_on, more_off}
use mathlib.Core.Path.{sym}
use Rattle.follow.proofs.count.one_more.Goals as goal

pub returns-then-entries-most : goal.returns-then-entries-most
returns-then-entries-most c = record { counted = sym (more_on _ _ c.if-entries-most.true) }

pub returns-else-entries-most : goal.returns-else-entries-most
returns-else-entries-most c = record { counted = sym (more_off _ _ c.if-entries-most.false) }
