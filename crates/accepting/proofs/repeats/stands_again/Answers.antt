-- `stands_again` meets its contract: a row that is alone in its class is not looked for. Assumes
-- nothing.
use mathlib.Core.Path.{◌∙◌}
use native.Mathlib.Omega.{arith}
use borrow.Author.Tests.{lt-leb}
use Rattle.accepting.proofs.ClassLaws.{alone}
use Rattle.accepting.proofs.repeats.stands_again.Goals as goal

pub returns-else-get_or-ge-SHARED : goal.returns-else-get_or-ge-SHARED
returns-else-get_or-ge-SHARED c = record { answer = lt-leb 2 _ (omega arith) ∙ alone _ c.args.row.now c.args.counts.now _ _ c.class_of.ensures.answer c.get_or.ensures.answer (omega arith) c.requires.shared }
