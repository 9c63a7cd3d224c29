use mathlib.Core.Path.{◌≡◌}
use lib.ListN.{drop}
use Rattle.judge.specs.LastCut.{caught_at, later_of}
use Rattle.judge.specs.Steps.{Ready, step_hops, row_last}
use Rattle.judge.proofs.cut.last_cut.Given as goal

abbrev pub invariant-loop-place : goal.invariant-loop-place
invariant-loop-place l = record {
  left : later_of (caught_at l.last) l.place (row_last l.block l.goal l.n (step_hops l.block (drop l.place l.steps) l.n.scope)) ≡ row_last l.block l.goal l.initial.n (step_hops l.block l.steps l.initial.n.scope);
  ready : Ready l.block l.goal l.live l.n;
}
