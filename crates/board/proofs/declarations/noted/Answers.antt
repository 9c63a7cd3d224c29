-- `noted` meets its contract. Assumes nothing.
use mathlib.Core.Path.{sym, ◌∙◌}
use borrow.Author.Tests.{not-true, not-false}
use Rattle.graph_table.specs.Values.{packed}
use Rattle.graph_table.proofs.RowLaws.{names_told}
use Rattle.board.proofs.DeclaringLaws.{noted_other, noted_here}
use Rattle.board.proofs.declarations.noted.Goals as goal

pub returns-then-ne : goal.returns-then-ne
returns-then-ne c = record { answer = λ s h. noted_other c.args.set s (packed c.args.name) c.args.row (sym (names_told c.args.row.name c.args.name) ∙ not-true _ (sym c.if-ne.ensures)) }

pub returns : goal.returns
returns c = record { answer = λ s h. noted_here c.args.set s (packed c.args.name) c.args.row _ (sym (names_told c.args.row.name c.args.name) ∙ not-false _ (sym c.if-ne.ensures)) (c.scope_set.ensures.answer s h) }
