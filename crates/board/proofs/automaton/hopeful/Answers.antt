use mathlib.Core.Path.{◌≡◌, refl, sym, ap, ◌∙◌}
use native.Mathlib.Omega.{arith}
use native.Mathlib.Numerals.{add-one}
use Rattle.block.specs.Block.{next_cell}
use Rattle.board.specs.Tables.{round_set, hopes_after, hopeful_set}
use Rattle.board.proofs.StateCells.{hopes_still}
use Rattle.board.proofs.automaton.hopeful.Goals as goal

pub loop-init : goal.loop-init
unfolding hopes_after
loop-init c = refl

pub loop-preserved : goal.loop-preserved
unfolding hopes_after
loop-preserved c = rw (add-one c.loop.counter) (c.round-next.ensures.answer ∙ ap (round_set (next_cell c.args.delta.now) c.args.accept) c.loop.invariant)

pub returns-then-next-set : goal.returns-then-next-set
returns-then-next-set c = record { answer = hopes_still (next_cell c.args.delta.now) c.args.accept c.loop.counter c.loop.set (omega arith) c.loop.invariant (sym c.round-next.ensures.answer ∙ c.if-next-set.true) }

pub returns-after-loop : goal.returns-after-loop
unfolding hopeful_set
returns-after-loop c = record { answer = let e : c.loop.counter ≡ 17 = omega arith in c.loop.invariant ∙ ap (hopes_after (next_cell c.args.delta.now) c.args.accept) e }
