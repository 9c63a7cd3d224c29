use Rattle.beginnings.proofs.NearLaws.{Flooding}
use Rattle.beginnings.proofs.near.flood.Given as goal

abbrev pub invariant-loop : goal.invariant-loop
invariant-loop l = Flooding l.near l.free l.s l.seen l.todo
