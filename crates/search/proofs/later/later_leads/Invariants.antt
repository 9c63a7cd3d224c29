use mathlib.Core.Path.{◌≡◌}
use Rattle.search.proofs.LaterLaws.{later_on, later_from}
use Rattle.search.proofs.later.later_leads.Given as goal

abbrev pub invariant-loop-p : goal.invariant-loop-p
invariant-loop-p l = later_on l.block l.goal l.n l.x ≡ later_from l.block l.goal l.n l.x l.p
