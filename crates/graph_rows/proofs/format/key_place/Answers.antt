use mathlib.Core.Path.{sym}
use native.Mathlib.Omega.{arith}
use lib.ListN.{get_or-eq_default}
use Rattle.graph_rows.specs.Table.{key_places, key_place}
use Rattle.graph_rows.proofs.format.key_place.Goals as goal

pub returns-in-0 : goal.returns-in-0
unfolding key_place
returns-in-0 c = record { answer = rw c.in-0.is }

pub returns-in-1 : goal.returns-in-1
unfolding key_place
returns-in-1 c = record { answer = rw c.in-1.is }

pub returns-in-2 : goal.returns-in-2
unfolding key_place
returns-in-2 c = record { answer = rw c.in-2.is }

pub returns-in-3 : goal.returns-in-3
unfolding key_place
returns-in-3 c = record { answer = rw c.in-3.is }

pub returns-in-4 : goal.returns-in-4
unfolding key_place
returns-in-4 c = record { answer = rw c.in-4.is }

pub returns-in-5 : goal.returns-in-5
unfolding key_place
returns-in-5 c = record { answer = rw c.in-5.is }

pub returns-in-6 : goal.returns-in-6
unfolding key_place
returns-in-6 c = record { answer = rw c.in-6.is }

pub returns-in-7 : goal.returns-in-7
unfolding key_place
returns-in-7 c = record { answer = rw c.in-7.is }

pub returns-in-8 : goal.returns-in-8
unfolding key_place
returns-in-8 c = record { answer = rw c.in-8.is }

pub returns-in_default : goal.returns-in_default
unfolding key_place
returns-in_default c = record { answer = sym (get_or-eq_default key_places 260 {n = c.args.k} (omega arith)) }
