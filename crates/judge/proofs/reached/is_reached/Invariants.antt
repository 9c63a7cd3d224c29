use mathlib.Core.Path.{◌≡◌}
use lib.ListN.{drop}
use Rattle.search.specs.Conditions.{Inside}
use Rattle.judge.specs.Steps.{step_hops, row_reached}
use Rattle.judge.proofs.reached.is_reached.Given as goal

abbrev pub invariant-loop-step : goal.invariant-loop-step
invariant-loop-step l = record {
  left : row_reached l.block l.decls l.goal l.sought l.mark l.n (step_hops l.block (drop l.step-index l.steps) l.n.scope) ≡ row_reached l.block l.decls l.goal l.sought l.mark l.initial.n (step_hops l.block l.steps l.initial.n.scope);
  inside : Inside l.n;
}
