use mathlib.Core.Path.{sym, ◌∙◌}
use Rattle.board.proofs.Sets.{gathered_none, gathered_put, gathered_past, gathered_all}
use Rattle.board.proofs.automaton.states_where.Goals.{then-test, else-test}
use Rattle.board.proofs.automaton.states_where.Goals as goal

pub loop-q-init : goal.loop-q-init
loop-q-init g c = λ f h. gathered_none f

pub loop-q-preserved : goal.loop-q-preserved
loop-q-preserved g c = λ f h. elim c.if-test.branch [
  | then-test w ↦ rw w.out-is (gathered_put f _ _ (c.loop-q.invariant f h) c.loop-q-test.true (sym (h c.loop-q.q c.test.result c.loop-q-test.true c.test.ensures) ∙ w.if-test.true))
  | else-test w ↦ rw w.out-is (gathered_past f _ _ (c.loop-q.invariant f h) c.loop-q-test.true (sym (h c.loop-q.q c.test.result c.loop-q-test.true c.test.ensures) ∙ w.if-test.false))
]

pub returns : goal.returns
returns g c = record { answer = λ f h. gathered_all _ _ _ (c.loop-q.invariant f h) c.loop-q-test.false }
