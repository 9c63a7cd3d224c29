use mathlib.Core.Path.{sym, ap, ◌∙◌}
use Prim.Native.Nat.{◌*◌}
use Rattle.graph_rows.specs.Admission.{Row, value}
use Rattle.graph_table.proofs.Parts.{row_at, row_past}
use Rattle.board.proofs.Passes.{first}
use Rattle.board.proofs.letters.value_of.Goals as goal

pub returns-then-rows-i : goal.returns-then-rows-i
returns-then-rows-i c = record { answer = sym (ap (λ (row : Row). value row 0) (row_past _ _ c.if-rows-i.true)) }

pub returns : goal.returns
returns c = record { answer = c.first_value.ensures.answer ∙ sym (ap (λ (row : Row). value row 0) (row_at c.args.rows.now c.args.i c.if-rows-i.false) ∙ first c.args.rows.now (6 * c.args.i)) }
