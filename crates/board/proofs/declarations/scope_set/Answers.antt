-- `scope_set` meets its contract. Assumes nothing.
use mathlib.Core.Path.{sym, ◌∙◌}
use native.Mathlib.Omega.{arith}
use borrow.Author.Tests.{ne_eqb}
use Rattle.block.proofs.SetLaws.{scopes_none}
use Rattle.graph_table.proofs.Tests.{flip}
use Rattle.board.proofs.declarations.scope_set.Goals as goal

pub returns-then-at-lt64 : goal.returns-then-at-lt64
returns-then-at-lt64 c = record { answer = λ s h. c.single.ensures.answer s ∙ flip s _ }

pub returns-else-at-lt64 : goal.returns-else-at-lt64
returns-else-at-lt64 c = record { answer = λ s h. scopes_none s ∙ sym (ne_eqb c.args.at s (λ e. omega arith)) }
