-- `path_row::writer::are_steps` meets its contract. Assumes nothing.
use mathlib.Core.Path.{◌≡◌}
use mathlib.Core.Bool.{true, false}
use borrow.Author.Tests.{tests}
use Rattle.std.proofs.Common.{rules}
use Rattle.std.proofs.lemmas.Iterator.{cases_from_all, YieldsList-from_slice}
use Rattle.path_row.proofs.WriterLaws.{good, are_all}
use Rattle.path_row.proofs.writer.are_steps.Goals as goal

pub returns : goal.returns
returns c =
    record { answer = are_all _ _ (cases_from_all _ _ _ (λ s. good s ≡ true) (λ s. good s ≡ false) c.all.ensures.ran (YieldsList-from_slice c.args.steps.now cc) (λ x q k. search (rules, tests)) (λ x q k. search (rules, tests))) }
