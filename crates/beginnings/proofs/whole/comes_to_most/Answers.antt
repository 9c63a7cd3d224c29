-- `comes_to_most` meets its contract. Assumes nothing.
use mathlib.Core.Bool.{false≢true}
use native.Mathlib.Omega.{arith}
use Rattle.beginnings.proofs.whole.comes_to_most.Goals as goal

pub loop-width-init : goal.loop-width-init
loop-width-init c = omega arith

pub ahead-fewer-requires : goal.ahead-fewer-requires
ahead-fewer-requires c = record { near = c.requires.near; start = c.requires.inside.scope; width = omega (arith, c.loop-width.invariant) }

pub returns-then-eq : goal.returns-then-eq
returns-then-eq c = record { most = λ e. absurd (false≢true e) }

pub slice_bounds-count_by-end : goal.slice_bounds-count_by-end
slice_bounds-count_by-end c = omega arith

pub count_by-requires : goal.count_by-requires
count_by-requires c = record { bounds = c.requires.bounds; live = c.requires.live; table = c.requires.table; worth = c.requires.worth; near = omega arith; hopes = c.requires.hopes; inside = c.requires.inside; few = c.requires.few }

pub returns-then-count_by-ge-MOST : goal.returns-then-count_by-ge-MOST
returns-then-count_by-ge-MOST c = record { most = λ e. omega (arith, c.count_by.ensures.told.below c.requires.uncut, c.if-count_by-ge-MOST.true) }

pub overflow_add-width : goal.overflow_add-width
overflow_add-width c = omega arith

pub loop-width-smaller : goal.loop-width-smaller
loop-width-smaller c = omega arith

pub loop-width-preserved : goal.loop-width-preserved
loop-width-preserved c = omega arith

pub returns : goal.returns
returns c = record { most = λ e. absurd (false≢true e) }
