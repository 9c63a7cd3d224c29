-- `has_scopes` meets its contract: what is left of the scopes gives the whole. Assumes nothing.
use native.Mathlib.Omega.{arith}
use lib.ListN.{drop, length-drop}
use Rattle.dot_text.proofs.Answers.{number_none, number_some}
use Rattle.dot_text.proofs.StatementLaws.{scope_shrinks}
use Rattle.undot.proofs.ScopeLaws.{meeting_first, meeting_done, meeting_past, meeting_again, meeting_on}
use Rattle.undot.proofs.scopes.has_scopes.Goals as goal

pub loop-s-init : goal.loop-s-init
loop-s-init c = meeting_first c.args.count _ (drop c.args.at c.args.dot.now) (simp length-drop (omega arith))

pub returns : goal.returns
returns c = record { answer = meeting_done _ _ _ _ _ _ c.requires.few c.loop-s.invariant (number_none c.args.dot.now _ _ c.scope.ensures.answer c.in_default.is) }

pub returns-then-count-s : goal.returns-then-count-s
returns-then-count-s c = record { answer = meeting_past _ _ _ _ _ _ c.requires.few c.loop-s.invariant _ (number_some c.args.dot.now _ _ c.scope.ensures.answer _ _ c.in-Some.is) (omega arith) }

pub bounds-met-i : goal.bounds-met-i
bounds-met-i c = omega arith

pub returns-then-met-i : goal.returns-then-met-i
returns-then-met-i c = record { answer = meeting_again _ _ _ _ _ _ c.requires.few c.loop-s.invariant _ (number_some c.args.dot.now _ _ c.scope.ensures.answer _ _ c.in-Some.is) (omega arith) c.if-met-i.true }

pub bounds-met-i-in-Some : goal.bounds-met-i-in-Some
bounds-met-i-in-Some c = omega arith

pub overflow_add-number : goal.overflow_add-number
overflow_add-number c = omega (arith, c.loop-s.invariant.taken)

pub loop-s-smaller : goal.loop-s-smaller
loop-s-smaller c = scope_shrinks (drop c.loop-s.p c.args.dot.now) _ (number_some c.args.dot.now _ _ c.scope.ensures.answer _ _ c.in-Some.is)

pub loop-s-preserved : goal.loop-s-preserved
loop-s-preserved c = meeting_on _ _ _ _ _ _ c.requires.few c.loop-s.invariant _ (number_some c.args.dot.now _ _ c.scope.ensures.answer _ _ c.in-Some.is) (omega arith) c.if-met-i.false
