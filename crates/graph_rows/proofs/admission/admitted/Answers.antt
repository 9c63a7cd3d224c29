use mathlib.Core.Path.{◌≡◌, sym, ◌∙◌}
use mathlib.Core.Bool.{true, false}
use native.Mathlib.Omega.{arith}
use lib.ListN.{drop}
use Rattle.text_field.specs.Answer.{fault_of}
use Rattle.text_field.specs.Refusal.{number_of}
use Rattle.graph_rows.specs.Admission.{row_of, in_range, unless}
use Rattle.graph_rows.specs.Table.{items_at, range_place}
use Rattle.graph_rows.proofs.ColumnLaws.{layout_limit, layout_range}
use Rattle.graph_rows.proofs.AdmissionLaws.{refused_full, refused_range, follows_last}
use Rattle.graph_rows.proofs.admission.admitted.Goals as goal

pub returns-then-s-c : goal.returns-then-s-c
unfolding fault_of number_of
returns-then-s-c c = record { answer = sym (refused_full c.args.s.form c.args.s.section c.args.table.now c.args.p c.args.c (omega (arith, layout_limit c.args.s c.requires.layout, c.if-s-c.true))) }

pub returns-then-not-in_range : goal.returns-then-not-in_range
unfolding fault_of number_of
returns-then-not-in_range c = record { answer = let i : in_range c.args.c.labels c.args.c.scopes (items_at (range_place c.args.s.form c.args.s.section)) (row_of (drop c.args.p c.args.table.now)) ≡ false = rw (← layout_range c.args.s c.requires.layout, ← c.in_range.ensures.answer) c.if-not-in_range.true in sym (refused_range c.args.s.form c.args.s.section c.args.table.now c.args.p c.args.c (omega (arith, layout_limit c.args.s c.requires.layout, c.if-s-c.false)) i) }

pub returns-then-not-row_follows : goal.returns-then-not-row_follows
unfolding fault_of number_of unless
returns-then-not-row_follows c = record { answer = let i : in_range c.args.c.labels c.args.c.scopes (items_at (range_place c.args.s.form c.args.s.section)) (row_of (drop c.args.p c.args.table.now)) ≡ true = rw (← layout_range c.args.s c.requires.layout, ← c.in_range.ensures.answer) c.if-not-in_range.false in sym (follows_last c.args.s.form c.args.s.section c.args.table.now c.args.p c.args.c (omega (arith, layout_limit c.args.s c.requires.layout, c.if-s-c.false)) i (sym c.row_follows.ensures.answer ∙ c.if-not-row_follows.true)) }

pub returns : goal.returns
unfolding fault_of number_of unless
returns c = record { answer = let i : in_range c.args.c.labels c.args.c.scopes (items_at (range_place c.args.s.form c.args.s.section)) (row_of (drop c.args.p c.args.table.now)) ≡ true = rw (← layout_range c.args.s c.requires.layout, ← c.in_range.ensures.answer) c.if-not-in_range.false in sym (follows_last c.args.s.form c.args.s.section c.args.table.now c.args.p c.args.c (omega (arith, layout_limit c.args.s c.requires.layout, c.if-s-c.false)) i (sym c.row_follows.ensures.answer ∙ c.if-not-row_follows.false)) }
