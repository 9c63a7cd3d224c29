-- `add` meets its contract: a set that has nothing to gain stays, another grows. Assumes nothing.
use native.Mathlib.Omega.{arith}
use Rattle.search.proofs.Cells.{kept_same, kept_add, held_add, held_within}
use Rattle.search.proofs.places.add.Goals as goal

pub returns-then-old-states : goal.returns-then-old-states
returns-then-old-states c = record { kept = kept_same _; held = held_within _ _ _ (omega arith) c.if-old-states.true }

pub returns : goal.returns
returns c = record { kept = kept_add c.args.table.now c.args.s c.args.states (omega arith); held = held_add c.args.table.now c.args.s c.args.states (omega arith) (omega arith) }
