use Prim.Native.Nat.{◌+◌, ◌-◌}
use native.Mathlib.Nat.{sub-zero}
use mathlib.Core.Path.{◌≡◌, sym, ◌∙◌}
use native.Mathlib.Omega.{arith}
use lib.ListN.{drop}
use Rattle.graph_rows.specs.Admission.{row_of}
use Rattle.graph_rows.proofs.AdmissionLaws.{above_none, above_other, above_hit, above_on}
use Rattle.graph_rows.proofs.apart.stands_above.Goals as goal

pub loop-init : goal.loop-init
loop-init c = (omega arith, rw (sub-zero c.args.rows))

pub same_source-requires : goal.same_source-requires
same_source-requires c = record { room = (omega (arith, c.requires.room, c.loop.invariant.0, c.row_before-q.ensures.answer), c.requires.room) }

pub returns-then-not-same_source : goal.returns-then-not-same_source
returns-then-not-same_source c = record { answer = sym (sym c.loop.invariant.1 ∙ above_other (c.args.rows - c.loop.counter) c.loop.q c.args.table.now (row_of (drop c.args.p c.args.table.now)) (omega (arith, c.loop-test.true)) (rw (← c.row_before-q.ensures.answer, ← c.same_source.ensures.answer) c.if-not-same_source.true)) }

pub value_at-requires : goal.value_at-requires
value_at-requires c = record { room = omega (arith, c.requires.room, c.loop.invariant.0, c.row_before-q.ensures.answer) }

pub value_at-requires-in-loop : goal.value_at-requires-in-loop
value_at-requires-in-loop c = record { room = c.requires.room }

pub returns-then-value_at : goal.returns-then-value_at
returns-then-value_at c = record { answer = sym (sym c.loop.invariant.1 ∙ above_hit (c.args.rows - c.loop.counter) c.loop.q c.args.table.now (row_of (drop c.args.p c.args.table.now)) (omega (arith, c.loop-test.true)) (rw (← c.row_before-q.ensures.answer, ← c.same_source.ensures.answer) c.if-not-same_source.false) (rw (← c.row_before-q.ensures.answer, ← c.value_at.ensures.answer, ← c.value_at-in-loop.ensures.answer) c.if-value_at.true)) }

pub loop-preserved : goal.loop-preserved
loop-preserved c = let less : c.args.rows - (c.loop.counter + 1) ≡ c.args.rows - c.loop.counter - 1 = omega arith in (omega (arith, c.loop.invariant.0, c.row_before-q.ensures.answer), rw (less, c.row_before-q.ensures.answer) (above_on (c.args.rows - c.loop.counter) c.loop.q c.args.table.now (row_of (drop c.args.p c.args.table.now)) (omega (arith, c.loop-test.true)) (rw (← c.row_before-q.ensures.answer, ← c.same_source.ensures.answer) c.if-not-same_source.false) (rw (← c.row_before-q.ensures.answer, ← c.value_at.ensures.answer, ← c.value_at-in-loop.ensures.answer) c.if-value_at.false) ∙ c.loop.invariant.1))

pub returns : goal.returns
returns c = record { answer = sym (sym c.loop.invariant.1 ∙ above_none (c.args.rows - c.loop.counter) c.loop.q c.args.table.now (row_of (drop c.args.p c.args.table.now)) (omega (arith, c.loop-test.false))) }
