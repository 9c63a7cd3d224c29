use Rattle.beginnings.proofs.NearLaws.{NearBut}
use Rattle.beginnings.proofs.near.near_of.Given as goal

abbrev pub invariant-loop-p : goal.invariant-loop-p
invariant-loop-p l = NearBut l.block l.s l.p l.out
