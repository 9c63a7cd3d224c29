use mathlib.Core.Path.{sym}
use native.Mathlib.Omega.{arith}
use lib.ListN.{get_or-eq_default}
use Rattle.graph_rows.specs.Table.{range_places, range_place}
use Rattle.graph_rows.proofs.ColumnLaws.{place_told}
use Rattle.graph_rows.proofs.format.range_place.Goals as goal

pub returns-in-0 : goal.returns-in-0
unfolding range_place
returns-in-0 c = record { answer = rw c.in-0.is }

pub returns-in-1 : goal.returns-in-1
unfolding range_place
returns-in-1 c = record { answer = rw c.in-1.is }

pub returns-in-2 : goal.returns-in-2
unfolding range_place
returns-in-2 c = record { answer = rw c.in-2.is }

pub returns-in-3 : goal.returns-in-3
unfolding range_place
returns-in-3 c = record { answer = rw c.in-3.is }

pub returns-in-4 : goal.returns-in-4
unfolding range_place
returns-in-4 c = record { answer = rw c.in-4.is }

pub returns-in-5 : goal.returns-in-5
unfolding range_place
returns-in-5 c = record { answer = rw c.in-5.is (place_told _ _ _ _ _ c.place_by.ensures.answer c.has_turns.ensures.answer) }

pub returns-in-6 : goal.returns-in-6
unfolding range_place
returns-in-6 c = record { answer = rw c.in-6.is }

pub returns-in-7 : goal.returns-in-7
unfolding range_place
returns-in-7 c = record { answer = rw c.in-7.is }

pub returns-in-8 : goal.returns-in-8
unfolding range_place
returns-in-8 c = record { answer = rw c.in-8.is }

pub returns-in_default : goal.returns-in_default
unfolding range_place
returns-in_default c = record { answer = sym (get_or-eq_default (range_places c.args.form) 260 {n = c.args.k} (omega arith)) }
