use mathlib.Core.Path.{sym, ap, ◌∙◌}
use native.Mathlib.Omega.{arith}
use Rattle.text_field.specs.Answer.{fault_of}
use Rattle.text_field.specs.Refusal.{number_of}
use Rattle.graph_rows.specs.Format.{shape_at}
use Rattle.graph_rows.specs.Values.{formed}
use Rattle.graph_rows.proofs.RowLaws.{row_part}
use Rattle.graph_rows.proofs.TestLaws.{row_short, row_unformed, row_formed}
use Rattle.graph_rows.proofs.tested.row_refusal.Goals as goal

pub returns-in_default : goal.returns-in_default
unfolding fault_of number_of
returns-in_default c = record { answer = row_short c.args.s.form c.args.s.section c.args.table.now c.args.p c.args.c (omega (arith, c.in_default.ensures.lookup)) }

pub returns-then-not-is_formed : goal.returns-then-not-is_formed
unfolding fault_of number_of
returns-then-not-is_formed c =
    let found = c.in-Some.ensures.lookup.0
    in record { answer = row_unformed c.args.s.form c.args.s.section c.args.table.now c.args.p c.args.c found.1 (ap (formed (shape_at c.args.s.form c.args.s.section).row) (sym (row_part c.args.table.now c.args.p found.1) ∙ sym found.2) ∙ sym c.is_formed.ensures.answer ∙ c.if-not-is_formed.true) }

pub returns : goal.returns
returns c =
    let found = c.in-Some.ensures.lookup.0
    in record { answer = c.admitted.ensures.answer ∙ row_formed c.args.s.form c.args.s.section c.args.table.now c.args.p c.args.c found.1 (ap (formed (shape_at c.args.s.form c.args.s.section).row) (sym (row_part c.args.table.now c.args.p found.1) ∙ sym found.2) ∙ sym c.is_formed.ensures.answer ∙ c.if-not-is_formed.false) }
