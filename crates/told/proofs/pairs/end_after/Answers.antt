-- `end_after` meets its contract. Assumes nothing.
use Prim.Native.Nat.{◌<◌}
use lib.ListN.{length, get_or}
use mathlib.Core.Path.{◌≡◌, sym, ◌∙◌}
use borrow.Author.Tests.{tests}
use borrow.Author.Rules.{rules}
use Rattle.told.specs.Steps.{named_meaning, awaits_meaning}
use Rattle.told.proofs.PairLaws.{end_none, end_other, end_some}
use Rattle.told.proofs.pairs.end_after.Goals as goal

pub returns-in_err-x : goal.returns-in_err-x
unfolding awaits_meaning
returns-in_err-x c = record { answer = rw c.from_residual.ensures (end_none c.args.s.now c.args.scope c.args.at (search (rules, tests))) }

pub returns-then-not-is_end : goal.returns-then-not-is_end
unfolding awaits_meaning
returns-then-not-is_end c = let e : c.in_ok-x.field-0.now ≡ get_or c.args.s.now c.args.at 0 = search (rules, tests) in let h : c.args.at < length c.args.s.now = search (rules, tests) in record { answer = end_other c.args.s.now c.args.scope c.args.at h (rw (← e) (sym c.is_end.ensures.answer ∙ c.if-not-is_end.true)) }

pub returns : goal.returns
unfolding awaits_meaning named_meaning
returns c = let e : c.in_ok-x.field-0.now ≡ get_or c.args.s.now c.args.at 0 = search (rules, tests) in let h : c.args.at < length c.args.s.now = search (rules, tests) in record { answer = rw e (end_some c.args.s.now c.args.scope c.args.at h (rw (← e) (sym c.is_end.ensures.answer ∙ c.if-not-is_end.false))) }
