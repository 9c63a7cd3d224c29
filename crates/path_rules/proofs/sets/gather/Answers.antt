-- `gather` meets its contract. Assumes nothing.
use mathlib.Core.Path.{ap, ◌∙◌}
use native.Mathlib.Omega.{arith}
use Rattle.path_rules.specs.Sets.{gather}
use Rattle.path_rules.proofs.SetLaws.{gather_next, gather_none}
use Rattle.path_rules.proofs.sets.gather.Goals as goal

pub loop-p-init : goal.loop-p-init
loop-p-init g c = λ f h. gather_none f

pub loop-p-preserved : goal.loop-p-preserved
loop-p-preserved g c = λ f h. gather_next f c.loop-p.p c.loop-p.all c.set_of-all.result (c.loop-p.invariant f h) (h c.loop-p.p c.set_of-all.result c.loop-p-test.true c.set_of-all.ensures)

pub returns : goal.returns
returns g c = record { answer = λ f h. c.loop-p.invariant f h ∙ ap (gather f) (omega arith) }
