-- `flood` meets its contract. Assumes nothing.
use mathlib.Core.Path.{refl}
use native.Mathlib.Omega.{arith}
use lib.Count.{trailing_le}
use Rattle.beginnings.proofs.NearLaws.{flood_first, flood_done, flood_all, flood_next}
use Rattle.beginnings.proofs.near.flood.Goals as goal

pub offset_bounds-near-s : goal.offset_bounds-near-s
offset_bounds-near-s c = omega arith

pub bounds-near-s : goal.bounds-near-s
bounds-near-s c = omega arith

pub loop-init : goal.loop-init
loop-init c = flood_first _ _ _ _ refl

pub returns-then-todo-eq0 : goal.returns-then-todo-eq0
returns-then-todo-eq0 c = record { flooded = flood_done _ _ _ _ _ c.if-todo-eq0.true c.loop.invariant }

pub overflow_cast-u : goal.overflow_cast-u
overflow_cast-u c = omega (arith, trailing_le 64 c.loop.todo)

pub offset_bounds-near-u : goal.offset_bounds-near-u
offset_bounds-near-u c = omega arith

pub bounds-near-u : goal.bounds-near-u
bounds-near-u c = omega arith

pub taken-requires : goal.taken-requires
taken-requires c = record { scope = omega arith }

pub loop-preserved : goal.loop-preserved
loop-preserved c = flood_next _ _ _ _ _ _ _ _ refl c.taken.ensures.answer c.loop.invariant

pub returns : goal.returns
returns c = record { flooded = flood_all _ _ _ }
