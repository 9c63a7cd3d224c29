-- `same_key` meets its contract: neither row stands before the other. Assumes nothing.
use mathlib.Core.Path.{sym, ◌∙◌}
use native.Mathlib.Omega.{arith}
use Rattle.graph_rows.specs.Format.{section_at}
use Rattle.graph_change.proofs.Keys.{less_not_same}
use Rattle.graph_change.proofs.KeyLaws.{given_before, neither}
use Rattle.graph_change.proofs.key.same_key.Goals as goal

pub returns-then-is_less : goal.returns-then-is_less
returns-then-is_less c = record { answer = sym (less_not_same (section_at c.args.k).key _ c.args.row (sym c.is_less.ensures.answer ∙ c.if-is_less.true)) }

pub returns : goal.returns
returns c = record { answer = neither (section_at c.args.k).key _ c.args.row _ (sym c.is_less.ensures.answer ∙ c.if-is_less.false) (given_before c.args.k _ c.args.row _ (omega arith) c.row_cells.ensures.answer c.key_place.ensures.answer _ _ c.key_less.ensures.answer) }
