-- `path_row::writer::is_row` meets its contract, test by test. Assumes nothing.
use borrow.Author.Tests.{tests}
use Rattle.std.proofs.Common.{rules}
use Rattle.path_row.proofs.WriterLaws.{row_tests}
use Rattle.path_row.proofs.writer.is_row.Goals as goal

pub returns-then-steps-le-MOST_STEPS : goal.returns-then-steps-le-MOST_STEPS
returns-then-steps-le-MOST_STEPS c = record { answer = rw (row_tests c.args.mark c.args.start c.args.steps.now) (search (rules, tests)) }

pub returns-else-steps-le-MOST_STEPS : goal.returns-else-steps-le-MOST_STEPS
returns-else-steps-le-MOST_STEPS c = record { answer = rw (row_tests c.args.mark c.args.start c.args.steps.now) (search (rules, tests)) }
