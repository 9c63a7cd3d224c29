use Prim.Native.Nat.{◌+◌, ◌*◌}
use mathlib.Core.Path.{◌≡◌}
use Rattle.board.proofs.Passes.{accepting_none, accepting_past, accepting_noted, accepting_all}
use native.Mathlib.Omega.{arith}
use Rattle.board.proofs.automaton.accepting.Goals.{then-q-lt16, else-q-lt16}
use Rattle.board.proofs.automaton.accepting.Goals as goal

pub loop-i-init : goal.loop-i-init
loop-i-init c = accepting_none c.args.rows.now

pub loop-i-preserved : goal.loop-i-preserved
loop-i-preserved c = let next : (c.loop-i.i + 1) * 6 ≡ c.loop-i.i * 6 + 6 = omega arith in
    elim c.if-q-lt16.branch [
      | then-q-lt16 w ↦ rw (next, w.out-is) (accepting_noted c.args.rows.now (c.loop-i.i * 6) c.loop-i.out c.loop-i.invariant (omega arith) c.first_value-q.result c.first_value-q.ensures.answer w.if-q-lt16.true)
      | else-q-lt16 w ↦ rw (next, w.out-is) (accepting_past c.args.rows.now (c.loop-i.i * 6) c.loop-i.out c.loop-i.invariant (omega arith) c.first_value-q.result c.first_value-q.ensures.answer w.if-q-lt16.false)
    ]

pub returns : goal.returns
returns c = record { answer = accepting_all c.args.rows.now (c.loop-i.i * 6) c.loop-i.out c.loop-i.invariant (omega arith) }
