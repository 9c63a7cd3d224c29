-- `first_in` meets its contract. Assumes nothing.
use Prim.Native.Nat.{ℕ}
use mathlib.Core.Path.{◌∙◌, ap}
use mathlib.Core.List.{List}
use lib.ListN.{get_or}
use Rattle.graph_rows.specs.Admission.{value, blank}
use Rattle.graph_table.specs.Sections.{rows_of}
use Rattle.was.proofs.RowLaws.{first_none, first_there}
use Rattle.was.proofs.order.first_in.Goals as goal

pub returns-then-rows-lt-ROW : goal.returns-then-rows-lt-ROW
returns-then-rows-lt-ROW c = record { answer = first_none _ c.if-rows-lt-ROW.true ∙ ap (λ (l : List ℕ). value (get_or (rows_of l) 0 blank) 0) c.section_rows-rows.ensures.answer }

pub returns : goal.returns
returns c = record { answer = first_there _ _ c.if-rows-lt-ROW.false c.first_value.ensures.answer ∙ ap (λ (l : List ℕ). value (get_or (rows_of l) 0 blank) 0) c.section_rows-rows.ensures.answer }
