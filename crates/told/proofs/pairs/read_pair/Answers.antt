-- `read_pair` meets its contract. Assumes nothing.
use mathlib.Core.Path.{◌∙◌}
use native.Mathlib.Omega.{arith}
use Rattle.told.specs.Steps.{awaits_meaning}
use Rattle.told.proofs.PairLaws.{pair_none, pair_past, pair_in}
use Rattle.told.proofs.pairs.read_pair.Goals as goal

pub returns-in_err-scope : goal.returns-in_err-scope
unfolding awaits_meaning
returns-in_err-scope c = record { answer = rw c.from_residual.ensures (pair_none c.args.s.now c.args.at _ c.read_number.ensures.answer c.in_err-scope.was) }

pub returns-then-scope-gt-MOST_SCOPE : goal.returns-then-scope-gt-MOST_SCOPE
unfolding awaits_meaning
returns-then-scope-gt-MOST_SCOPE c = record { answer = pair_past c.args.s.now c.args.at _ c.read_number.ensures.answer _ _ c.in_ok-scope.was (omega arith) }

pub returns : goal.returns
returns c = record { answer = c.end_after.ensures.answer ∙ pair_in c.args.s.now c.args.at _ c.read_number.ensures.answer _ _ c.in_ok-scope.was (omega arith) }
