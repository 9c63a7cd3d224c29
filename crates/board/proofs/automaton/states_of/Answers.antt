use mathlib.Core.Path.{◌≡◌}
use Prim.Native.Nat.{◌+◌, ◌-◌, ◌/◌}
use Rattle.board.proofs.StateCells.{none_next, none_still}
use native.Mathlib.Omega.{arith}
use Rattle.board.proofs.automaton.states_of.Goals as goal

pub loop-i-init : goal.loop-i-init
loop-i-init c = λ j h k. absurd (omega arith)

pub returns-then-block-i-lt16 : goal.returns-then-block-i-lt16
returns-then-block-i-lt16 c = record { still = none_still c.args.block.now c.loop-i.i ((c.loop-i.i - 1) / 8 + 1) (omega arith) c.loop-i.invariant (omega arith) }

pub loop-i-preserved : goal.loop-i-preserved
loop-i-preserved c = let same : c.loop-i.i - 1 + 1 ≡ c.loop-i.i = omega arith in none_next c.args.block.now (c.loop-i.i - 1) (rw same c.loop-i.invariant) (omega arith)

pub returns : goal.returns
returns c = record { still = none_still c.args.block.now c.loop-i.i 0 (omega arith) c.loop-i.invariant (omega arith) }
