use mathlib.Core.Path.{sym, ◌∙◌}
use native.Mathlib.Omega.{arith}
use Rattle.graph_rows.proofs.RowLaws.{letter_hit, letter_miss, letter_none, letter_start}
use Rattle.graph_rows.proofs.rows.label_place.Goals as goal

pub loop-i-init : goal.loop-i-init
loop-i-init c = letter_start c.args.x c.args.table.now c.args.labels

pub returns-then-get_or-x : goal.returns-then-get_or-x
returns-then-get_or-x c = record { answer = let h = letter_hit c.args.x c.args.table.now c.args.labels c.loop-i.i (omega (arith, c.loop-i-test.true)) (sym c.get_or.ensures.answer ∙ c.if-get_or-x.true) in omega (arith, c.loop-i.invariant, h) }

pub loop-i-preserved : goal.loop-i-preserved
loop-i-preserved c = let h = letter_miss c.args.x c.args.table.now c.args.labels c.loop-i.i (omega (arith, c.loop-i-test.true)) (λ e. c.if-get_or-x.false (c.get_or.ensures.answer ∙ e)) in omega (arith, c.loop-i.invariant, h)

pub returns : goal.returns
returns c = record { answer = let h = letter_none c.args.x c.args.table.now c.args.labels c.loop-i.i (omega (arith, c.loop-i-test.false)) in omega (arith, c.loop-i.invariant, h) }
